-- Units of two files: each has the bytes of the file of its number.
use Rattle.std.proofs.Common.{◌≡◌, ◌++◌, ℕ, zero, suc, List, [], refl}
use Rattle.std.specs.Result.{result_unwrap_or}
use Rattle.std.proofs.lemmas.List.Elements.{All-append, All-map}
use Rattle.unit_graph.specs.Sources.{FileUnit}
use Rattle.unit_graph.specs.Tables.{AreOf, AreOfFiles}
use Rattle.unit_graph.specs.Files.{headers_of, unit_in, units_in}

files_of : List ℕ → List ℕ → ℕ → List ℕ
files_of first second zero = first
files_of first second (suc n) = second

own : (files : ℕ → List ℕ) (file : ℕ) (bytes : List ℕ) → bytes ≡ files file
    → AreOf files (units_in file bytes)
own files file bytes same = All-map (λ (u : FileUnit). u.bytes ≡ files u.file)
    (unit_in file bytes) (result_unwrap_or (headers_of bytes) []) (λ k d lt. same)

pub two_files : (first second : List ℕ) → AreOfFiles (units_in 0 first ++ units_in 1 second)
unfolding files_of
two_files first second = (
  files_of first second,
  All-append (λ (u : FileUnit). u.bytes ≡ files_of first second u.file) (units_in 0 first)
      (units_in 1 second) (own (files_of first second) 0 first refl)
      (own (files_of first second) 1 second refl),
)
