use Rattle.unit_encoder.proofs.graph.encode_files.Goals as goal

pub encode_by-requires-clause-usable : goal.encode_by-requires-clause-usable
encode_by-requires-clause-usable g c κs within = record {
  few = c.requires.few;
  readable = c.requires.readable;
  files = λ t. c.requires.files;
}
