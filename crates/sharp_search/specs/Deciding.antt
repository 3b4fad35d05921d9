-- What is looked at to tell whether an answer can still change. This project's.
use Rattle.std.specs.Prelude.{ℕ, ◌==◌, ◌||◌, Bool, not, List, map, slice_index}
use Rattle.jass_base.specs.declared.answer.Hit.{Hit}
use Rattle.final_certificate.specs.Rule.{is_safe}
use Rattle.sharp_bounds.specs.Marks.{unseen_sum}

-- what each document may still gain, by its mask and the next weights
abbrev pub limits_of : List ℕ → List ℕ → List ℕ
limits_of masks weights = map (λ mask. unseen_sum mask weights) masks

-- a document as it stands
abbrev pub hit_at : List ℕ → ℕ → Hit
hit_at scores doc = record { doc = doc; score = slice_index scores doc }

-- a document without a score, or not behind the last hit, or behind it whatever it gains
abbrev pub stays_out : (ℕ → ℕ) → List ℕ → Hit → ℕ → Bool
stays_out limit scores last doc = (slice_index scores doc == 0) || (not (is_safe 0 last (hit_at scores doc)) || is_safe (limit doc) last (hit_at scores doc))
