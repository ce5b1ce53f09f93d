use Rattle.std.proofs.Common.{◌≡◌, ◌++◌, ◌+◌, take, drop, length}
use Rattle.std.specs.List.{flat_map}
use Rattle.small_files.specs.Bytes.{Section, headers_from}
use Rattle.small_files.specs.declared.bytes.TheConstants.{INFO_AT}
use Rattle.small_files.proofs.bytes.put_sections.Given as goal

-- the content is that of so many sections, and the headers that are left follow those that stand
abbrev pub invariant-loop-section : goal.invariant-loop-section
invariant-loop-section l = record {
  content : l.content.items
      ≡ flat_map (λ (s : Section). s.bytes) (take l.section-index l.sections);
  headers : l.file.items
      ++ headers_from l.order (INFO_AT + length l.content.items) (drop l.section-index l.sections)
      ≡ l.initial.file.items ++ headers_from l.order INFO_AT l.sections;
}
