use Rattle.shown_types.proofs.choosing.choose.Goals as goal

pub returns-in-Some : goal.returns-in-Some
returns-in-Some c = rw c.in-Some.is (c.choose_named.ensures c.args.from)
