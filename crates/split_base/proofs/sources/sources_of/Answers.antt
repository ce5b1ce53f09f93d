use Rattle.std.proofs.Common.{◌≡◌, ◌++◌, ◌∷◌, [], ℕ, List, Option, None, ap, ◌∙◌, sym, arith, map}
use Rattle.std.proofs.Common.{take, get_or, unwrap_or, ◌<◌, length}
use Rattle.std.proofs.lemmas.List.{map_more, get_or_read}
use Rattle.split_base.specs.Building.{source_by}
use Rattle.split_base.proofs.Noting.{source_noted}
use Rattle.split_base.proofs.sources.sources_of.Goals as goal

pub loop-i-preserved : goal.loop-i-preserved
loop-i-preserved b c =
    let g = (b.G.TypeGraph.shape c.args.graph.now) in
    let nodes : List ℕ = c.args.places.now.nodes.items in
    let firsts : List ℕ = c.args.places.now.firsts.items in
    let plain : List (Option ℕ) = c.in_ok-plain.plain.items in
    let i : ℕ = c.loop-i.i in
    let lt : i < length firsts = omega arith in
    let here : i < length plain = omega (arith, c.in_ok-plain.ensures.len) in
    let noted : c.index.result.now ≡ get_or plain i None =
    get_or_read plain i c.index.result.now here c.index.ensures None in
    let first : c.index-in-loop-i.result.now ≡ get_or firsts i 0 =
    get_or_read firsts i c.index-in-loop-i.result.now lt c.index-in-loop-i.ensures 0 in
    let is : c.unwrap_or.result ≡ unwrap_or (get_or plain i None) (get_or firsts i 0) =
    c.unwrap_or.ensures ∙ ap (λ (o : Option ℕ). unwrap_or o c.index-in-loop-i.result.now) noted
    ∙ ap (unwrap_or (get_or plain i None)) first in
    c.in_ok-push.ensures.items
    ∙ ap (λ (xs : List ℕ). xs ++ c.unwrap_or.result ∷ []) c.loop-i.invariant
    ∙ ap (λ (k : ℕ). map (source_by g nodes) (take i firsts) ++ k ∷ [])
    (source_noted g nodes plain i (get_or firsts i 0) c.unwrap_or.result here
    (rw c.deref.ensures.value at c.in_ok-plain.ensures.noted) (c.requires.firsts i lt) is)
    ∙ sym (map_more (source_by g nodes) firsts i 0 lt)
