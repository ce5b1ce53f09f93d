use Rattle.btf_codec.proofs.Again.{never_memory}
use Rattle.btf_codec.proofs.laws.bytes_need_no_memory.Goals as goal

pub returns : goal.returns
returns c = never_memory
