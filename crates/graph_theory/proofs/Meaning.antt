-- The computed definitions mean what Meaning.antt of specs/ says.
-- Assumes nothing.
use Rattle.graph_theory.proofs.Joined.{joined-exactly, unjoined-place, unjoined-none}
use Rattle.graph_theory.proofs.Path.{path-columns}
use Rattle.graph_theory.proofs.PathRows.{path-rows, path-every-walk}
use Rattle.graph_theory.specs.Meaning.{Meanings}

pub meanings : Meanings
meanings g ok =
    record {
      of-joined =
          λ S inside s r.
          record {
            joined-walk = joined-exactly g ok S inside s r.0 r.1;
            first-unjoined = unjoined-place g ok S inside s r.0 r.1;
            all-joined = λ e v q. unjoined-none g ok S inside s r.0 r.1 e v q.0 q.1;
          };
      of-paths =
          λ S tree u v r q.
          record {
            path-walk = path-rows g ok S tree u v r.0 r.1 q.0 q.1;
            every-walk = path-every-walk g ok S tree u v r.0 r.1 q.0 q.1;
            xor-columns = λ s p. path-columns g ok S tree s u v p.0 p.1 r.0 r.1 q.0 q.1;
          };
    }
