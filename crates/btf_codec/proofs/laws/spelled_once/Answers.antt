use Rattle.btf_codec.proofs.Alone.{spelled_alone}
use Rattle.btf_codec.proofs.laws.spelled_once.Goals as goal

pub returns : goal.returns
returns c = spelled_alone
