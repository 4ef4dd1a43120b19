-- What the numbers that the line reader answers stand for.
-- Assumes nothing.
use Rattle.std.specs.Prelude.{ℕ, ◌≤◌, ◌<◌, List, ◌≡◌, length, Option, Some, None, IfSome, Result, Ok, Err, ⊤}
use Rattle.std.proofs.Math.Option as maybe
use Rattle.file_text.specs.Steps.Spans.{part, field_at}
use Rattle.file_text.specs.declared.Part.{Part}
use Rattle.file_spec.specs.Line as file
use Rattle.file_line.specs.declared.End.{End}
use Rattle.file_line.specs.declared.End.TheVariants.{Number, Name}
use Rattle.file_line.specs.declared.ReadError.{ReadError}
use Rattle.file_line.specs.declared.Trench.{Trench}
use Rattle.file_line.specs.declared.Line.{Line}
use Rattle.file_line.specs.declared.Line.TheVariants.{Nothing, Counting, Laid}

-- what an answer of the code is, where there is one
abbrev pub seen : {A B : Type 0} → (A → B) → Option A → maybe.Option B
seen f None = maybe.none
seen f (Some x) = maybe.some (f x)

-- an end
unfoldable pub end_in : List ℕ → End → file.End
end_in text (Number v) = file.number v
end_in text (Name p) = file.name (part text p.from p.to)

abbrev pub end_seen : List ℕ → Option End → maybe.Option file.End
end_seen text x = seen (end_in text) x

-- a mark
abbrev pub mark_seen : Option ℕ → maybe.Option ℕ
mark_seen x = seen (λ v. v) x

-- a trench and a line
unfoldable pub trench_in : List ℕ → Trench → file.Trench
trench_in text t =
    record {
      struck = t.struck;
      at = t.at;
      left_at = t.left_at;
      left = end_in text t.left;
      right_at = t.right_at;
      right = end_in text t.right;
      price = t.price;
      mark = t.mark;
    }

unfoldable pub line_in : List ℕ → Result Line ReadError → file.Line
line_in text (Ok Nothing) = file.nothing
line_in text (Ok (Counting v at)) = file.counting v at
line_in text (Ok (Laid t)) = file.trench (trench_in text t)
line_in text (Err e) = file.wrong e.number e.place

-- where the fields are that were read
pub record Lies (text : List ℕ) (count : ℕ) (parts : List Part) : Type 0 where
  pub sized : length parts ≡ 5
  pub order : (i : ℕ) → i < count → i < 5 → (field_at parts i).from ≤ (field_at parts i).to
  pub high : (i : ℕ) → i < count → i < 5 → (field_at parts i).to ≤ length text

-- an end whose name lies in the text, or whose number is in its range
unfoldable pub Lying : List ℕ → End → Type 0
Lying text (Number v) = v ≤ 255
Lying text (Name p) = (p.from ≤ p.to) × (p.to ≤ length text)

-- a name stands at this place
unfoldable pub Placed : ℕ → End → Type 0
Placed at (Number v) = ⊤
Placed at (Name p) = p.from ≡ at

abbrev pub GoodEnd : List ℕ → ℕ → Option End → Type 0
GoodEnd text at x = IfSome x (λ e. Lying text e × Placed at e)

-- a trench whose ends lie in the text, with numbers in their ranges
pub record GoodTrench (text : List ℕ) (t : Trench) : Type 0 where
  pub at_high : t.at ≤ length text
  pub left-high : t.left_at ≤ length text
  pub left-lying : Lying text t.left
  pub left-placed : Placed t.left_at t.left
  pub right-high : t.right_at ≤ length text
  pub right-lying : Lying text t.right
  pub right-placed : Placed t.right_at t.right
  pub mark-small : t.mark ≤ 1

abbrev pub Good : List ℕ → Result Line ReadError → Type 0
Good text (Ok Nothing) = ⊤
Good text (Ok (Counting v at)) = ⊤
Good text (Ok (Laid t)) = GoodTrench text t
Good text (Err e) = ⊤
