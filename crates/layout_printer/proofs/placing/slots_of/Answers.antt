use Rattle.std.proofs.Common.{◌≡◌, ◌+◌, ◌<◌, ◌++◌, ◌∷◌, [], length, sym, ap, ◌∙◌, subst, rules}
use Rattle.std.proofs.Common.{Result, Err, None, ℕ, List, max}
use Rattle.std.proofs.lemmas.List.{length_push}
use Rattle.layout_printer.specs.declared.slots.LayoutFault.TheVariants.{NoSize}
use Rattle.layout_printer.specs.declared.slots.Slot.{Slot}
use Rattle.c_model.specs.declared.graph.CType.{CType}
use Rattle.c_model.specs.declared.graph.Ref.{Ref}
use Rattle.layout_printer.specs.Sizes.{AreSizes}
use Rattle.btf_codec.specs.Fields.{id_of, target_at}
use Rattle.layout_printer.specs.Layout.{IsSlot, IsSlotAt, bits_of}
use Rattle.layout_printer.specs.Measuring.{farthest}
use Rattle.layout_printer.proofs.Holes.{farthest_push}
use Rattle.layout_printer.proofs.Placed.{slots_more, first_lacking, part_read}
use Rattle.layout_printer.proofs.placing.slots_of.Goals as goal

same_err : {T E : Type 0} (r : Result T E) (x y : E) → r ≡ Err x → r ≡ Err y → x ≡ y
same_err r x y e f = cc

pub returns-in_err-slot-clause-no_size : goal.returns-in_err-slot-clause-no_size
returns-in_err-slot-clause-no_size c = λ (n : ℕ) (types : List CType)
    (e : c.from_residual-in_err-slot.result ≡ Err (NoSize n)) (a : AreSizes types c.args.sizes.now).
    let gone : c.from_residual-in_err-slot.result ≡ Err c.in_err-slot.field-0.0 = search rules in
    first_lacking types c.args.sizes.now.pointer c.args.t.now c.loop-k.slots.items
    c.index-parts-k.result c.loop-k.k n
    (part_read c.args.t.now.label.parts c.items-parts.result.now c.loop-k.k c.index-parts-k.result
    c.items-parts.ensures c.loop-k-test.true c.index-parts-k.is)
    (c.loop-k.invariant.each types a)
    (subst (λ (r : Ref). (bits_of types c.args.sizes.now.pointer c.args.t.now.label.flag
    c.index-parts-k.result.value r ≡ None) × (n ≡ id_of r)) (c.target_at-target.ensures
    ∙ ap (λ (rs : List Ref). target_at rs c.loop-k.k) c.items.ensures)
    (c.in_err-slot.ensures.no_size n types (ap (λ x. Err x)
    (same_err c.from_residual-in_err-slot.result c.in_err-slot.field-0.0 (NoSize n) gone e)) a))

pub loop-k-preserved : goal.loop-k-preserved
loop-k-preserved c =
    let items : c.push.new.self.items ≡ c.loop-k.slots.items ++ c.in_ok-slot.slot ∷ [] =
    search rules in
    record {
      count = ap (λ (ss : List Slot). length ss) items ∙ length_push c.loop-k.slots.items
          c.in_ok-slot.slot ∙ ap (λ n. n + 1) c.loop-k.invariant.count;
      each = λ (types : List CType) (a : AreSizes types c.args.sizes.now).
          subst (λ (ss : List Slot). (j : ℕ) → j < c.loop-k.k + 1
          → IsSlotAt types c.args.sizes.now.pointer c.args.t.now ss j) (sym items)
          (slots_more types c.args.sizes.now.pointer c.args.t.now c.loop-k.slots.items
          c.in_ok-slot.slot c.index-parts-k.result c.loop-k.k c.loop-k.invariant.count
          (part_read c.args.t.now.label.parts c.items-parts.result.now c.loop-k.k
          c.index-parts-k.result c.items-parts.ensures c.loop-k-test.true c.index-parts-k.is)
          (c.loop-k.invariant.each types a)
          (subst (λ (r : Ref). IsSlot types c.args.sizes.now.pointer c.args.t.now.label.flag
          c.loop-k.slots.items c.index-parts-k.result.value r c.in_ok-slot.slot)
          (c.target_at-target.ensures
          ∙ ap (λ (rs : List Ref). target_at rs c.loop-k.k) c.items.ensures)
          (c.in_ok-slot.ensures.ok types c.loop-k.slots.items a c.loop-k.invariant.end)));
      end = c.later-end.ensures ∙ ap (λ m. max m c.end_of.result) c.loop-k.invariant.end
          ∙ ap (λ m. max (farthest c.loop-k.slots.items) m) c.end_of.ensures
          ∙ sym (ap farthest items ∙ farthest_push c.loop-k.slots.items c.in_ok-slot.slot);
    }
