-- What the functions on slices of a text answer.
use Rattle.std.specs.Prelude.{ℕ, ◌≡◌, ◌<◌, ◌≤◌, Bool, true, ⊤, List, [], ◌∷◌, ◌++◌, length, Option, Some, None, not}
use Rattle.std.specs.Borrow.{Bor}
use Rattle.std.specs.List.{AllByRecursion}
use Rattle.query_reader.specs.declared.plain.PlainMention.{PlainMention}
use Rattle.query_reader.specs.Mentions.{Mention}
use Rattle.query_reader.specs.Texts.{is_word, folded_term, folded_mentions}
use Rattle.query_reader.specs.Slices.{BeginsWithout}

-- a mention in memory as plain data
abbrev pub mention_data : PlainMention → Mention
mention_data mention = record { term = mention.term.now; factor = mention.factor }

-- letters and digits, at least one
pub record IsWordRun (run : List ℕ) : Type 0 where
  pub some : 0 < length run
  pub words : AllByRecursion (λ c. is_word c ≡ true) run

-- the first run of letters and digits, and what stands behind it
pub record HasWordRun (text run behind : List ℕ) : Type 0 where
  pub same : folded_mentions text ≡ folded_mentions (run ++ behind)
  pub word : IsWordRun run
  pub ends : BeginsWithout is_word behind
  pub shorter : length behind < length text

-- the first such run, where there is one
abbrev pub FindsWordRun : List ℕ → Option (Bor (List ℕ) × Bor (List ℕ)) → Type 0
FindsWordRun text None = folded_mentions text ≡ []
FindsWordRun text (Some found) = HasWordRun text found.0.now found.1.now

-- the factor of any run in front of a text, and what stands behind the factor
pub record TakesFactor (text : List ℕ) (factor : ℕ) (behind : List ℕ) : Type 0 where
  pub mention : (run : List ℕ) → IsWordRun run → folded_mentions (run ++ text) ≡ record { term = folded_term run; factor = factor } ∷ folded_mentions behind
  pub within : length behind ≤ length text

-- a character that ends a run of letters and digits
abbrev pub is_no_word : ℕ → Bool
is_no_word c = not (is_word c)
