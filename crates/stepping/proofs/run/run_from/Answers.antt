-- What the loop leaves, made tidy, is the answer of the run.
use Rattle.stepping.proofs.Ending.{ends_tidy}
use Rattle.stepping.proofs.run.run_from.Goals as goal

pub returns : goal.returns
returns c =
    let ran = c.go-a in
    ends_tidy ran.result _ ran.ensures c.tidy-end.ensures
