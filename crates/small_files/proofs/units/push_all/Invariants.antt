use Rattle.std.proofs.Common.{◌≡◌, ◌++◌, map, take, All}
use Rattle.elf_sections.specs.Images.{file_of}
use Rattle.unit_graph.specs.Sources.{IsReadable}
use Rattle.unit_graph.specs.Files.{unit_in}
use Rattle.small_files.proofs.units.push_all.Given as goal

-- so many units stand behind what there was
abbrev pub invariant-loop-unit : goal.invariant-loop-unit
invariant-loop-unit l = record {
  units : l.all.items
      ≡ l.initial.all.items ++ map (unit_in l.file (file_of l.image)) (take l.unit-index l.units);
  readable : All IsReadable l.all.items;
}
