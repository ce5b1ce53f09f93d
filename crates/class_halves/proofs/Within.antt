-- The definitions of open forwards are nodes.
use Rattle.std.proofs.Common.{◌≡◌, ◌<◌, ℕ, List, length, get_or, ap, subst, arith}
use Rattle.std.specs.List.{Contains}
use Rattle.std.proofs.lemmas.List.{get_or_default}
use Rattle.c_model.specs.Graph.{Shape}
use Rattle.c_model.specs.Forwards.{definitions_in, IsIndexOf}
use Rattle.c_model.proofs.Licences.{closed_definition}

-- the definitions that an index holds for the first n nodes are among them
abbrev pub AreWithin : List (List ℕ) → ℕ → Type 0
AreWithin index n = (x d : ℕ) → x < n → Contains (definitions_in index x) d → d < n

pub IsIndexOf-within : (g : Shape) (index : List (List ℕ)) → IsIndexOf g index → (n : ℕ)
    → n ≡ length g.nodes → AreWithin index n
IsIndexOf-within g index ix n e x d hx c =
    let h = closed_definition g index ix x d (rw (← e) hx)
    (λ f. let l : length (definitions_in index x) ≡ 0 = ap length f in omega (arith, c.1)) c in
    rw e h.0

pub within-at : (index : List (List ℕ)) (n x : ℕ) → AreWithin index n → x < n → (ds : List ℕ)
    → ds ≡ definitions_in index x → (k d : ℕ) → k < length ds → get_or ds k d < n
within-at index n x w hx ds e k d lt = w x (get_or ds k d) hx
    (subst (λ us. Contains us (get_or ds k d)) e (k, lt, get_or_default ds k (get_or ds k d) d lt))
