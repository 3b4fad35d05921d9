use Rattle.shared_lemmas.proofs.Common.{List, ℕ, ◌≡◌, ◌++◌, ◌/◌, ◌%◌, ◌^◌, ◌-◌, length, drop, replicate, ap, ◌∙◌, drop-replicate}
use Rattle.lane_kernels.proofs.SetBits.{number_padded}
use Rattle.lane_kernels.proofs.bitmap.words_of.Goals as goal
use lib.Lanes.{number_l}

padded : (bytes copied : List ℕ) → copied ≡ bytes → number_l 256 (copied ++ drop (length bytes) (replicate 16 0)) ≡ number_l 256 bytes
padded bytes copied is =
    ap (λ (xs : List ℕ). number_l 256 (xs ++ drop (length bytes) (replicate 16 0))) is
    ∙ ap (λ (xs : List ℕ). number_l 256 (bytes ++ xs)) (drop-replicate (length bytes) 16 0)
    ∙ number_padded bytes (16 - length bytes)

pub returns-clause-low : goal.returns-clause-low
returns-clause-low c = c.words_of_16-2.ensures.low ∙ ap (λ n. n % 2 ^ 64) (padded c.args.bytes.now c.copy_from_slice.new.self c.copy_from_slice.ensures.after)

pub returns-clause-high : goal.returns-clause-high
returns-clause-high c =
    c.words_of_16-2.ensures.high ∙ ap (λ n. n / 2 ^ 64) (padded c.args.bytes.now c.copy_from_slice.new.self c.copy_from_slice.ensures.after)
