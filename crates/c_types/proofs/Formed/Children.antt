-- What is true of all entries is true of the children of one, and of those of a tag.
use Rattle.std.proofs.Common.{◌≡◌, ℕ, ◌-◌, ◌<◌, ◌==◌, ◌||◌, nat_le, Bool, true, false, List, []}
use Rattle.std.proofs.Common.{◌∷◌, length, if◌then◌else◌, arith}
use Rattle.std.specs.Prelude.{All}
use Rattle.std.proofs.lemmas.List.Elements.{All-nil, All-cons, All-head, All-tail}
use Rattle.entry_tree.specs.Items.{Given}
use Rattle.type_attributes.specs.Children.{children_of, tagged}
use Rattle.type_attributes.specs.Parts.{some_tagged}

child : (P : Given → Type 0) (e : Given) (rest : List Given) (stop one : Bool) → P e → All P rest
    → All P (if stop then [] else (if one then e ∷ rest else rest))
child P e rest true one p h = All-nil P
child P e rest false true p h = All-cons P e rest p h
child P e rest false false p h = h

pub children_all : (P : Given → Type 0) (depth : ℕ) (es : List Given) → All P es
    → All P (children_of depth es)
children_all P depth [] h = h
children_all P depth (e ∷ es) h = child P e (children_of depth es) (nat_le e.depth depth)
    (e.depth - depth == 1) (All-head P e es h) (children_all P depth es (All-tail P e es h))

kept : (P : Given → Type 0) (e : Given) (rest : List Given) (has : Bool) → P e → All P rest
    → All P (if has then e ∷ rest else rest)
kept P e rest true p h = All-cons P e rest p h
kept P e rest false p h = h

pub tagged_all : (P : Given → Type 0) (tag : ℕ) (es : List Given) → All P es → All P (tagged tag es)
tagged_all P tag [] h = h
tagged_all P tag (e ∷ es) h = kept P e (tagged tag es) (e.tag == tag) (All-head P e es h)
    (tagged_all P tag es (All-tail P e es h))

counted : (e : Given) (rest : List Given) (has later : Bool) → (later ≡ true → 0 < length rest)
    → (has || later) ≡ true → 0 < length (if has then e ∷ rest else rest)
counted e rest true later h t = omega arith
counted e rest false later h t = h t

pub some_counted : (tag : ℕ) (es : List Given) → some_tagged tag es ≡ true
    → 0 < length (tagged tag es)
some_counted tag [] t = cc
some_counted tag (e ∷ es) t =
    counted e (tagged tag es) (e.tag == tag) (some_tagged tag es) (some_counted tag es) t
