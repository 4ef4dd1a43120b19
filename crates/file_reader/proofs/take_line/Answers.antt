-- `file_reader::take_line` meets its contract, by what the line says. Assumes nothing.
use lib.ListN.{length-set}
use Rattle.file_line.specs.Steps.Seen.{line_in}
use Rattle.file_spec.specs.Reader.{next}
use Rattle.file_reader.specs.Steps.State.{resumed}
use Rattle.file_reader.proofs.Taken.{told-twice, told-once, sound-told}
use Rattle.file_reader.proofs.take_line.Goals as goal

pub returns-in-Nothing-clause-l_value : goal.returns-in-Nothing-clause-l_value
unfolding next line_in resumed
returns-in-Nothing-clause-l_value c = rw c.in-Nothing.is

pub returns-then-found-eq1-clause-l_value : goal.returns-then-found-eq1-clause-l_value
unfolding line_in resumed
returns-then-found-eq1-clause-l_value c = rw (c.in-Counting.is, c.at.ensures) (told-twice _ _ _ _ _ _ _ _ _ _ _ _ c.if-found-eq1.true)

pub returns-else-found-eq1-clause-l_value : goal.returns-else-found-eq1-clause-l_value
unfolding line_in resumed
returns-else-found-eq1-clause-l_value c = rw c.in-Counting.is (told-once _ _ _ _ _ _ _ _ _ _ _ _ c.if-found-eq1.false c.requires.sized.0.numbers)

pub returns-else-found-eq1-clause-sized : goal.returns-else-found-eq1-clause-sized
returns-else-found-eq1-clause-sized c =
    let n = c.requires.sized.0 in
    (record { numbers = simp length-set n.numbers; starts-sized = n.starts-sized; ends-sized = n.ends-sized }, c.requires.sized.1)

pub returns-else-found-eq1-clause-sound : goal.returns-else-found-eq1-clause-sound
returns-else-found-eq1-clause-sound c = sound-told _ _ _ _ _ c.requires.sized.0.numbers c.requires.sound

pub lay-requires : goal.lay-requires
lay-requires c =
    let p = c.requires in record { text_len_bound = (p.text_len_bound.0, rw c.in-Laid.is at p.text_len_bound.1); sized = p.sized; sound = p.sound }

pub returns-in-Laid-clause-l_value : goal.returns-in-Laid-clause-l_value
unfolding next line_in
returns-in-Laid-clause-l_value c = rw c.in-Laid.is c.lay.ensures.t_value
