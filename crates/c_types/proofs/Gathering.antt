-- Gathering what the children of a tag make, one child after the other.
use Rattle.std.proofs.Common.{◌≡◌, ℕ, ◌==◌, ◌||◌, ◌&&◌, Bool, true, false, List, [], ◌∷◌, ◌++◌, map}
use Rattle.std.proofs.Common.{Option, if◌then◌else◌, refl, sym, ap, ◌∙◌, append_assoc}
use Rattle.std.proofs.lemmas.List.{append-nil}
use Rattle.entry_tree.specs.Items.{Given}
use Rattle.type_attributes.specs.declared.fault.TypeFault.{TypeFault}
use Rattle.type_attributes.specs.Faults.{noted}
use Rattle.type_attributes.specs.Children.{tagged}
use Rattle.type_attributes.specs.Parts.{refusals_by, some_is}
use Rattle.dw_base.proofs.Bools.{or_assoc}
use Rattle.c_types.specs.Taking.{made_if, refused_if}
use Rattle.type_attributes.proofs.Noting.{noted_append}

one : {X : Type 0} (make : Given → X) (e : Given) (es : List Given) (t : Bool)
    → map make (if t then e ∷ es else es) ≡ (if t then make e ∷ [] else []) ++ map make es
one make e es true = refl
one make e es false = refl

-- what is made so far, and then of the children that are left, is all
pub gathers : {X : Type 0} (tag : ℕ) (make : Given → X) (old new : List Given) (e : Given)
    (xs more all : List X) → old ≡ e ∷ new → more ≡ xs ++ made_if tag make e
    → xs ++ map make (tagged tag old) ≡ all → more ++ map make (tagged tag new) ≡ all
gathers {X} tag make old new e xs more all took made h =
    ap (λ (ys : List X). ys ++ map make (tagged tag new)) made
    ∙ append_assoc xs (made_if tag make e) (map make (tagged tag new))
    ∙ ap (λ (ys : List X). xs ++ ys) (sym (one make e (tagged tag new) (e.tag == tag)))
    ∙ sym (ap (λ (ks : List Given). xs ++ map make (tagged tag ks)) took) ∙ h

pub gathered : {X : Type 0} (tag : ℕ) (make : Given → X) (kids : List Given) (xs all : List X)
    → kids ≡ [] → xs ++ map make (tagged tag kids) ≡ all → xs ≡ all
gathered {X} tag make kids xs all none h =
    sym (append-nil xs) ∙ sym (ap (λ (ks : List Given). xs ++ map make (tagged tag ks)) none) ∙ h

one_refused : (refused : Given → List TypeFault) (e : Given) (es : List Given) (t : Bool)
    → refusals_by refused (if t then e ∷ es else es)
    ≡ (if t then refused e else []) ++ refusals_by refused es
one_refused refused e es true = refl
one_refused refused e es false = refl

pub notes : (tag : ℕ) (refused : Given → List TypeFault) (old new : List Given) (e : Given)
    (o after all : Option TypeFault) → old ≡ e ∷ new → after ≡ noted o (refused_if tag refused e)
    → noted o (refusals_by refused (tagged tag old)) ≡ all
    → noted after (refusals_by refused (tagged tag new)) ≡ all
notes tag refused old new e o after all took made h =
    ap (λ (x : Option TypeFault). noted x (refusals_by refused (tagged tag new))) made
    ∙ sym (noted_append o (refused_if tag refused e) (refusals_by refused (tagged tag new)))
    ∙ ap (λ (fs : List TypeFault). noted o fs)
    (sym (one_refused refused e (tagged tag new) (e.tag == tag)))
    ∙ sym (ap (λ (ks : List Given). noted o (refusals_by refused (tagged tag ks))) took) ∙ h

-- whether one so far, or one that is left, passes a test
pub tests : (test : Given → Bool) (old new : List Given) (e : Given) (b after all : Bool)
    → old ≡ e ∷ new → after ≡ (b || test e) → (b || some_is test old) ≡ all
    → (after || some_is test new) ≡ all
tests test old new e b after all took made h =
    ap (λ (x : Bool). x || some_is test new) made ∙ sym (or_assoc b (test e) (some_is test new))
    ∙ sym (ap (λ (ks : List Given). b || some_is test ks) took) ∙ h

one_test : (test : Given → Bool) (e : Given) (es : List Given) (t : Bool)
    → some_is test (if t then e ∷ es else es) ≡ ((t && test e) || some_is test es)
one_test test e es true = refl
one_test test e es false = refl

-- the same among the children of a tag
pub tag_tests : (tag : ℕ) (test : Given → Bool) (old new : List Given) (e : Given)
    (b after all : Bool) → old ≡ e ∷ new → after ≡ (b || (e.tag == tag && test e))
    → (b || some_is test (tagged tag old)) ≡ all → (after || some_is test (tagged tag new)) ≡ all
tag_tests tag test old new e b after all took made h =
    ap (λ (x : Bool). x || some_is test (tagged tag new)) made
    ∙ sym (or_assoc b (e.tag == tag && test e) (some_is test (tagged tag new)))
    ∙ ap (λ (x : Bool). b || x) (sym (one_test test e (tagged tag new) (e.tag == tag)))
    ∙ sym (ap (λ (ks : List Given). b || some_is test (tagged tag ks)) took) ∙ h
