use Rattle.btf_codec.proofs.Again.{stored_alone, stored_over}
use Rattle.btf_codec.proofs.laws.stored_is_read.Goals as goal

pub returns-clause-alone : goal.returns-clause-alone
returns-clause-alone c = stored_alone

pub returns-clause-over : goal.returns-clause-over
returns-clause-over c = stored_over
