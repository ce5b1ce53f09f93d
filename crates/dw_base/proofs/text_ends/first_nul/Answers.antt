use Rattle.dw_base.proofs.Terminated.{rest_whole}
use Rattle.dw_base.proofs.FirstNul.{nul_found, nul_missing}
use Rattle.dw_base.proofs.text_ends.first_nul.Goals as goal

pub returns-in-Some : goal.returns-in-Some
returns-in-Some c = nul_found c.args.bytes.now _ c.args.from c.in-Some.after c.memchr.result
    (rest_whole c.args.bytes.now c.args.from) c.memchr.ensures c.in-Some.is

pub returns-in-None : goal.returns-in-None
returns-in-None c = nul_missing c.args.bytes.now _ c.args.from c.memchr.result
    (rest_whole c.args.bytes.now c.args.from) c.memchr.ensures c.in-None.is
