use Rattle.std.proofs.Common.{arith}
use Rattle.c_model.specs.Forwards.{Tag, declared_tag, defined_tag}
use Rattle.forward_rule.specs.Kept.{lists_of}
use Rattle.forward_rule.proofs.Gathering.{Grows-opened, Holds-opened, place-within, tag_at-some}
use Rattle.forward_rule.proofs.gather.Groups.asked.Goals as goal

pub returns-in-Some-clause-holds : goal.returns-in-Some-clause-holds
returns-in-Some-clause-holds b c =
    let tag : Tag = (c.in-Some.family, c.label-label.result.now.name) in
    let o = rw (c.new.ensures, c.again.ensures) at c.in_ok-place.ensures in
    Holds-opened (b.G.TypeGraph.shape c.args.graph.now) c.args.x c.args.self.now.keys.keys
    (lists_of c.args.self.now.definitions.items) c.requires.holds tag
    c.place_of.new.self.keys.keys (lists_of c.place_of.new.self.definitions.items)
    c.in_ok-place.place o

pub returns-in-Some-clause-grows : goal.returns-in-Some-clause-grows
returns-in-Some-clause-grows b c = Grows-opened c.args.self.now.keys.keys
    (lists_of c.args.self.now.definitions.items) c.place_of.new.self.keys.keys (lists_of
    c.place_of.new.self.definitions.items) c.new.result c.in_ok-place.place c.in_ok-place.ensures

pub returns-in-Some-clause-says : goal.returns-in-Some-clause-says
returns-in-Some-clause-says b c =
    let l = c.label-label.result.now in
    let tag : Tag = (c.in-Some.family, l.name) in
    let o = rw (c.new.ensures, c.again.ensures) at c.in_ok-place.ensures in
    let is = tag_at-some (b.G.TypeGraph.shape c.args.graph.now).nodes c.args.x l defined_tag
    c.defined_family.result c.in-Some.family c.label-label.ensures c.defined_family.ensures
    c.in-Some.is in
    (tag, is, o.placed)

pub overflow_cast-result-in-Some-declared_family : goal.overflow_cast-result-in-Some-declared_family
overflow_cast-result-in-Some-declared_family b c =
    let lt = place-within c.args.x _ _ _ _ _ _ c.requires.few
    c.in_ok-place-in-Some-declared_family.ensures in
    let room = c.requires.room in
    search arith

pub returns-in_ok-place-in-Some-declared_family-clause-holds :
    goal.returns-in_ok-place-in-Some-declared_family-clause-holds
returns-in_ok-place-in-Some-declared_family-clause-holds b c =
    let tag : Tag = (c.in-Some-declared_family.family, c.label-label.result.now.name) in
    let o = rw (
      c.new-in-Some-declared_family.ensures,
      c.again-in-Some-declared_family.ensures,
    ) at c.in_ok-place-in-Some-declared_family.ensures in
    Holds-opened (b.G.TypeGraph.shape c.args.graph.now) c.args.x c.args.self.now.keys.keys
    (lists_of c.args.self.now.definitions.items) c.requires.holds tag
    c.place_of-in-Some-declared_family.new.self.keys.keys
    (lists_of c.place_of-in-Some-declared_family.new.self.definitions.items)
    c.in_ok-place-in-Some-declared_family.place o

pub returns-in_ok-place-in-Some-declared_family-clause-grows :
    goal.returns-in_ok-place-in-Some-declared_family-clause-grows
returns-in_ok-place-in-Some-declared_family-clause-grows b c =
    Grows-opened c.args.self.now.keys.keys (lists_of c.args.self.now.definitions.items)
    c.place_of-in-Some-declared_family.new.self.keys.keys
    (lists_of c.place_of-in-Some-declared_family.new.self.definitions.items)
    c.new-in-Some-declared_family.result c.in_ok-place-in-Some-declared_family.place
    c.in_ok-place-in-Some-declared_family.ensures

pub returns-in_ok-place-in-Some-declared_family-clause-says :
    goal.returns-in_ok-place-in-Some-declared_family-clause-says
returns-in_ok-place-in-Some-declared_family-clause-says b c =
    let l = c.label-label.result.now in
    let tag : Tag = (c.in-Some-declared_family.family, l.name) in
    let o = rw (
      c.new-in-Some-declared_family.ensures,
      c.again-in-Some-declared_family.ensures,
    ) at c.in_ok-place-in-Some-declared_family.ensures in
    let is = tag_at-some (b.G.TypeGraph.shape c.args.graph.now).nodes c.args.x l declared_tag
    c.declared_family.result c.in-Some-declared_family.family c.label-label.ensures
    c.declared_family.ensures c.in-Some-declared_family.is in
    (tag, is, o.placed)
