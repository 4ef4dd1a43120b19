-- What holds of the bytes that were read holds of the first bytes of the text that the reader says, where it says one.
-- Assumes nothing.
use Rattle.std.proofs.Common.{◌≡◌, ℕ, List, IfSome, Option, None, Some, take, subst}

pub of_text : (said : Option (List ℕ)) (read : List ℕ) (room n : ℕ) (P : List ℕ → Type 0) → IfSome said (λ text. read ≡ take room text) → room ≡ n → P read → IfSome said (λ text. P (take n text))
of_text None read room n P same e p = tt
of_text (Some text) read room n P same e p = subst (λ k. P (take k text)) e (subst P same p)
