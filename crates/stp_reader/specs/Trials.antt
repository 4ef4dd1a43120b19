-- Trials of what is answered of a text: of a broken one, and of one with two rows.
-- Assumes nothing.
use Rattle.std.specs.Prelude.{true, false, [], ◌∷◌, ◌≡◌, replicate, Ok, Err}
use Rattle.stp_spec.specs.Reader.{Read, broken, whole}
use Rattle.stp_reader.specs.Texts.{text_of}

abbrev two_rows : Read
two_rows =
    record {
      graph = true;
      nodes = 3;
      edges = 4;
      rows = 2;
      left = 1 ∷ 2 ∷ [];
      right = 2 ∷ 3 ∷ [];
      weight = 5 ∷ 0 ∷ 0 ∷ 0 ∷ 254 ∷ 255 ∷ 255 ∷ 255 ∷ [];
    }

pub record TrialsHold : Type 0 where
  pub broken-holds : text_of (broken 7)
      ≡ Err (record {
        at = 7;
        table =
            record {
              graph = false;
              nodes = 0;
              edges = 0;
              rows = 0;
              left = replicate 1024 0;
              right = replicate 1024 0;
              weight = replicate 4096 0;
            };
      })
  pub read-holds : text_of (whole two_rows)
      ≡ Ok (record {
        graph = true;
        nodes = 3;
        edges = 4;
        rows = 2;
        left = 1 ∷ 2 ∷ replicate 1022 0;
        right = 2 ∷ 3 ∷ replicate 1022 0;
        weight = 5 ∷ 0 ∷ 0 ∷ 0 ∷ 254 ∷ 255 ∷ 255 ∷ 255 ∷ replicate 4088 0;
      })
