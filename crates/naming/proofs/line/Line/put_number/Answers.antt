-- By the tests: the digit, the digits, or `0x` and the digits.
use Rattle.naming.proofs.Adding.{adds_join, adds_same}
use Rattle.naming.proofs.Digits.{decimal_is, hex_is, digit_is}
use Rattle.naming.proofs.line.Line.put_number.Goals as goal

pub returns-then-n-lt10 : goal.returns-then-n-lt10
returns-then-n-lt10 c = adds_same (digit_is _ c.if-n-lt10.true) c.put_bytes.ensures

pub returns-then-n-lt-HEX_FROM : goal.returns-then-n-lt-HEX_FROM
returns-then-n-lt-HEX_FROM c =
    adds_same (decimal_is _ _ _ c.if-n-lt-HEX_FROM.true c.places_of.ensures.value c.places_of.ensures.few c.put_digits.ensures)
    c.put_bytes-then-n-lt-HEX_FROM.ensures

pub returns-else-n-lt-HEX_FROM : goal.returns-else-n-lt-HEX_FROM
returns-else-n-lt-HEX_FROM c =
    adds_same (hex_is _ c.if-n-lt-HEX_FROM.false c.put_digits-else-n-lt-HEX_FROM.ensures)
    (adds_join c.put.ensures c.put_bytes-else-n-lt-HEX_FROM.ensures)
