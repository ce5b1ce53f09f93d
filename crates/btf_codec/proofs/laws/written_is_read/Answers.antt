use Rattle.std.proofs.Common.{◌≡◌, ◌<◌, ℕ, List, Option, Some, get_or, subst}
use Rattle.btf_strings.specs.Names.{Names, own_section}
use Rattle.c_model.specs.declared.graph.CType.{CType}
use Rattle.dw_base.specs.declared.numbers.Order.{Order}
use Rattle.btf_codec.specs.Gives.{EndsWithNul, base_seen}
use Rattle.btf_codec.specs.Reading.{Before, names_before}
use Rattle.btf_codec.specs.Spelling.{base_of}
use Rattle.btf_codec.specs.Spells.{Base, Spells}
use Rattle.btf_codec.proofs.Complete.{complete, is_own_order}
use Rattle.btf_codec.proofs.laws.written_is_read.Goals as goal

pub returns : goal.returns
returns c = λ (before : Option Before) (order : Order) (own : List CType) (strings : Names)
    (first : ℕ) (bytes : List ℕ) (h : (i : ℕ) → get_or bytes i 0 < 256)
    (ends : EndsWithNul (names_before before)) (e : base_of first strings.base ≡ base_seen before)
    (p : Spells (base_of first strings.base) order own (own_section strings) bytes).
    complete before (Some order) order own (own_section strings) bytes h ends
    (subst (λ (b : Option Base). Spells b order own (own_section strings) bytes) e p)
    (is_own_order order)
