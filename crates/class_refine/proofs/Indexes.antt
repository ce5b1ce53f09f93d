-- Each graph has an index of its open forwards.
use Rattle.std.proofs.Common.{◌≡◌, ◌<◌, ◌+◌, ℕ, zero, suc, List, [], ◌∷◌, ◌++◌, Option, Some}
use Rattle.std.proofs.Common.{None, length, take, map, refl, sym, ◌∙◌, ap, subst, arith, eqb, inl, inr}
use Rattle.std.proofs.Common.{⊎_elim}
use Rattle.std.specs.Prelude.{slice_set, slice_index_or}
use Rattle.std.specs.List.{Contains}
use Rattle.std.specs.Cmp.Lexicographic.{pointwise, bytes_decides}
use Rattle.std.proofs.lemmas.Option.{same_Some, none-some}
use Rattle.std.proofs.lemmas.List.{length-take}
use Rattle.c_model.specs.Graph.{Shape, IsSound, RefersWithin}
use Rattle.c_model.specs.Forwards.{Tag, forward_at, definition_at, IsForwardIndex}
use Rattle.c_model.proofs.Licences.{not_both, forward_parts}
use Rattle.c_model.proofs.Taking.{slice_get-push_new}
use Rattle.forward_rule.specs.Tags.{key_of_tag}
use Rattle.forward_rule.specs.Kept.{group_at}
use Rattle.forward_rule.specs.Gathered.{OpensGroup, Gathers, open_group}
use Rattle.forward_rule.proofs.Gathering.{Holds-opened, Holds-pass, Holds-added, few-opened}
use Rattle.forward_rule.proofs.Gathering.{Grows-opened, Gathers-push}
use Rattle.forward_rule.proofs.Opening.{IsForwardIndex-built}
use Rattle.class_refine.proofs.Numbered.{place_of}
use Rattle.class_refine.proofs.Plain.{plain_exists}

-- definitions of the first n nodes, by their tags
record HasGathered (g : Shape) (n : ℕ) : Type 0 where
  tags : List ℕ
  keys : List (List ℕ)
  groups : List (List ℕ)
  gathers : Gathers g n tags keys groups

-- a group is there, or is opened
record Opened (keys groups : List (List ℕ)) (key : List ℕ) : Type 0 where
  new_keys : List (List ℕ)
  new_groups : List (List ℕ)
  place : ℕ
  opens : OpensGroup keys groups key new_keys new_groups place

opened : (keys groups : List (List ℕ)) (key : List ℕ) → Opened keys groups key
opened keys groups key = ⊎_elim
    (λ p. record {
      new_keys = keys;
      new_groups = groups;
      place = p.0;
      opens = record { placed = p.1; kept = inl (refl, refl) };
    })
    (λ none. record {
      new_keys = keys ++ key ∷ [];
      new_groups = groups ++ [] ∷ [];
      place = length keys;
      opens = record { placed = slice_get-push_new keys key; kept = inr (none, refl, refl) };
    })
    (place_of (pointwise eqb) bytes_decides keys key)

module _ (g : Shape) (n : ℕ) (h : HasGathered g n) where
  -- a node that defines a tag
  gather_definition : (tag : Tag) → definition_at g.nodes n ≡ Some tag → HasGathered g (n + 1)
  gather_definition tag e =
      let s = h.gathers in
      let o = opened h.keys h.groups (key_of_tag tag) in
      let held = Holds-opened g n h.keys h.groups s.holds tag o.new_keys o.new_groups o.place
      o.opens in
      record {
        tags = h.tags ++ 0 ∷ [];
        keys = o.new_keys;
        groups = slice_set o.new_groups o.place (slice_index_or o.new_groups o.place [] ++ n ∷ []);
        gathers = Gathers-push g n 0 h.tags (h.tags ++ 0 ∷ []) h.keys h.groups o.new_keys
            (slice_set o.new_groups o.place (slice_index_or o.new_groups o.place [] ++ n ∷ [])) s
            (Holds-added g n o.new_keys o.new_groups held tag o.place o.opens.placed e)
            (few-opened g n h.keys h.groups s.holds n (key_of_tag tag) o.new_keys o.new_groups
            o.place s.few o.opens)
            (Grows-opened h.keys h.groups o.new_keys o.new_groups (key_of_tag tag) o.place o.opens)
            (record {
              forward = λ t f. absurd (not_both g.nodes n t tag (forward_parts g n t f).1 e);
              other = λ f. refl;
            })
            refl;
      }

  -- a forward of the files
  gather_forward : ((tag : Tag) → definition_at g.nodes n ≡ Some tag → ⊥) → (tag : Tag)
      → forward_at g n ≡ Some tag → HasGathered g (n + 1)
  gather_forward none tag e =
      let s = h.gathers in
      let o = opened h.keys h.groups (key_of_tag tag) in
      let held = Holds-opened g n h.keys h.groups s.holds tag o.new_keys o.new_groups o.place
      o.opens in
      record {
        tags = h.tags ++ (o.place + 1) ∷ [];
        keys = o.new_keys;
        groups = o.new_groups;
        gathers = Gathers-push g n (o.place + 1) h.tags (h.tags ++ (o.place + 1) ∷ []) h.keys
            h.groups o.new_keys o.new_groups s (Holds-pass g n o.new_keys o.new_groups held none)
            (few-opened g n h.keys h.groups s.holds n (key_of_tag tag) o.new_keys o.new_groups
            o.place s.few o.opens)
            (Grows-opened h.keys h.groups o.new_keys o.new_groups (key_of_tag tag) o.place o.opens)
            (record {
              forward = λ t f. (
                o.place,
                refl,
                o.opens.placed
                    ∙ ap (λ z. Some (key_of_tag z)) (same_Some tag t (sym e ∙ f)),
              );
              other = λ f. absurd (none-some tag (sym f ∙ e));
            })
            refl;
      }

  -- another node
  gather_other : ((tag : Tag) → definition_at g.nodes n ≡ Some tag → ⊥) → forward_at g n ≡ None
      → HasGathered g (n + 1)
  gather_other none e = let s = h.gathers in record {
    tags = h.tags ++ 0 ∷ [];
    keys = h.keys;
    groups = h.groups;
    gathers = Gathers-push g n 0 h.tags (h.tags ++ 0 ∷ []) h.keys h.groups h.keys h.groups s
        (Holds-pass g n h.keys h.groups s.holds none) (let few = s.few in omega arith)
        (λ i k at. at) (record {
          forward = λ t f. absurd (none-some t (sym e ∙ f));
          other = λ f. refl;
        }) refl;
  }

  gather_next : HasGathered g (n + 1)
  gather_next = by (definition_at g.nodes n) refl (forward_at g n) refl
    where
      by : (d : Option Tag) → definition_at g.nodes n ≡ d → (f : Option Tag) → forward_at g n ≡ f
          → HasGathered g (n + 1)
      by (Some tag) e f k = gather_definition tag e
      by None e (Some tag) k = gather_forward (λ t d. none-some t (sym e ∙ d)) tag k
      by None e None k = gather_other (λ t d. none-some t (sym e ∙ d)) k

gathered : (g : Shape) (n : ℕ) → HasGathered g n
gathered g zero = record {
  tags = [];
  keys = [];
  groups = [];
  gathers = record {
    covers = refl;
    numbers = λ x h. absurd (omega arith);
    holds = record {
      sized = refl;
      unique = λ i j k e f. absurd (none-some k e);
      known = λ d t h e. absurd (omega arith);
      members = λ i d t e. absurd (none-some (key_of_tag t) e);
      below = λ i d c. absurd (nothing i d c);
      rising = λ i j k lt h. absurd (none i j k lt h);
    };
    few = omega arith;
  };
}
  where
    nothing : (i d : ℕ) → Contains (slice_index_or {A = List ℕ} [] i []) d → ⊥
    nothing zero d c = omega (arith, c.1)
    nothing (suc i) d c = omega (arith, c.1)

    none : (i j k : ℕ) → j < k → k < length (slice_index_or {A = List ℕ} [] i []) → ⊥
    none zero j k lt h = omega arith
    none (suc i) j k lt h = omega arith
gathered g (suc n) =
    let e : n + 1 ≡ suc n = omega arith in rw e at (gather_next g n (gathered g n))

pub index_exists : (g : Shape) → IsSound g.base g.nodes
    → (index : List (List ℕ)) × IsForwardIndex g index
index_exists g sound =
    let h = gathered g (length g.nodes) in
    let l : length (take g.base g.nodes) ≡ g.base =
    (let fits = sound.fits in let e = length-take g.base g.nodes in omega arith) in
    let p = plain_exists (take g.base g.nodes)
    (subst (λ n. RefersWithin n (take g.base g.nodes)) (sym l) sound.base_within) in
    let groups = map (open_group p.0) h.groups in (
      map (group_at groups) h.tags,
      IsForwardIndex-built g h.tags p.0 h.keys h.groups groups h.gathers p.1 refl,
    )
