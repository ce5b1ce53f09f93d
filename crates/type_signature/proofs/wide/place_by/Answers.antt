use Rattle.std.proofs.Common.{◌<◌, ◌≤◌, ◌*◌, All, length}
use Rattle.forward_rule.specs.Kept.{lists_of}
use Rattle.forward_rule.proofs.Lookups.{length-lists_of}
use Rattle.type_signature.proofs.Dealing.{IsPlacedBy-dealt}
use Rattle.type_signature.proofs.wide.place_by.Goals as goal

pub returns : goal.returns
returns g c =
    let kept = c.args.kept.now in
    let groups = kept.groups.items in
    let of = c.in_ok-dealt.dealt in
    let e = c.in_ok-dealt.ensures in
    let dealt = rw (e.of.0, e.of.1, c.deref.ensures.value) at c.put_commons.ensures in
    let fits : length (lists_of groups) < of.shares * of.size =
    rw (length-lists_of groups) (rw c.deref.ensures.value at e.fits) in
    let tags : All (λ t. t ≤ length (lists_of groups)) kept.tags.items =
    rw (length-lists_of groups) c.requires.groups in
    let at = rw (c.deref-2.ensures.value, c.deref-3.ensures.value) at c.put_all.ensures.at in
    IsPlacedBy-dealt c.args.raw.now (lists_of groups) of.shares of.size
    c.put_commons.new.commons.items e.shares.0 fits dealt kept.tags.items
    c.put_all.new.numbers.items c.requires.tags tags c.put_all.ensures.covers at
