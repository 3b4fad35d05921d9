-- Walking a body field by field, as the loops do.
use Rattle.std.proofs.Common.{◌≡◌, ℕ, zero, suc, ◌+◌, ◌-◌, ◌<◌, ◌≤◌, List, [], ◌∷◌, ◌++◌, length, drop, Result, Ok, Err, refl, sym, ap, subst, ◌∙◌, arith, append_assoc}
use Rattle.std.proofs.lemmas.List.{append-nil, drop_all, length-drop}
use Rattle.ciff_read.proofs.Below.{WireField, WireWhy, field_at, WireFault, ReadsField}
use Rattle.ciff_read.specs.declared.refusal.CiffRefusal.{CiffRefusal}
use Rattle.ciff_read.specs.declared.refusal.CiffFault.{CiffFault}
use Rattle.ciff_read.specs.declared.refusal.CiffFault.TheVariants as faults
use Rattle.ciff_read.specs.Refusals.{◌>>=◌, why_of, Fails}
use Rattle.ciff_read.specs.Walking.{PlacedEntry, Walked, in_front, walk, walk_within}

-- what was walked before, and what is walked later
abbrev pub joined : Walked → Walked → Walked
joined done later = record { fields = done.fields ++ later.fields; entries = done.entries ++ later.entries }

-- one field more at the end
abbrev pub with_field : Walked → WireField → List PlacedEntry → Walked
with_field done f entries = record { fields = done.fields ++ f ∷ []; entries = done.entries ++ entries }

abbrev pub nothing : Walked
nothing = record { fields = []; entries = [] }

module _ (inside : ℕ → ℕ → WireField → Result (List PlacedEntry) CiffRefusal) where
  pub no_field : (k at : ℕ) → walk_within inside k at [] ≡ Ok nothing
  unfolding walk_within
  no_field zero at = refl
  no_field (suc k) at = refl

  pub one_field : (k at next : ℕ) (s rest : List ℕ) (f : WireField) → 0 < length s → field_at s ≡ Ok (f, rest) → at + (length s - length rest) ≡ next
      → walk_within inside (suc k) at s ≡ (inside at next f >>= λ entries. walk_within inside k next rest >>= λ later. Ok (in_front f entries later))
  unfolding walk_within
  one_field k at next [] rest f some is place = absurd (omega arith)
  one_field k at next (b ∷ s) rest f some is place =
      subst (λ n. walk_within inside (suc k) at (b ∷ s) ≡ (inside at n f >>= λ entries. walk_within inside k n rest >>= λ later. Ok (in_front f entries later))) place (rw is refl)

  bad_field : (k at : ℕ) (s : List ℕ) (why : WireWhy) → 0 < length s → field_at s ≡ Err why → walk_within inside (suc k) at s ≡ Err (record { at = at; why = why_of why })
  unfolding walk_within
  bad_field k at [] why some is = absurd (omega arith)
  bad_field k at (b ∷ s) why some is = rw is refl

  -- the body's bytes from a place on are walked up to another place, with what the walk so far has
  pub record Walks (bytes : List ℕ) (from at : ℕ) (IsSoFar : Walked → Type 0) : Type 0 where
    pub done : Walked
    pub left : ℕ
    pub enough : length bytes ≤ at + left
    pub within : at ≤ length bytes
    pub read : walk inside from (drop from bytes) ≡ (walk_within inside left at (drop at bytes) >>= λ later. Ok (joined done later))
    pub so_far : IsSoFar done

  nothing_before : (read : Result Walked CiffRefusal) → read ≡ (read >>= λ later. Ok (joined nothing later))
  nothing_before (Ok w) = refl
  nothing_before (Err r) = refl

  pub walks_start : (bytes : List ℕ) (from : ℕ) (IsSoFar : Walked → Type 0) → from ≤ length bytes → IsSoFar nothing → Walks bytes from from IsSoFar
  walks_start bytes from IsSoFar within so_far = record {
    done = nothing;
    left = length (drop from bytes);
    enough = omega (arith, length-drop from bytes);
    within = within;
    read = nothing_before (walk inside from (drop from bytes));
    so_far = so_far;
  }

  module _ (bytes : List ℕ) (from at next : ℕ) (IsSoFar : Walked → Type 0) (w : Walks bytes from at IsSoFar) where
    front : (f : WireField) → at < next → next ≤ length bytes → field_at (drop at bytes) ≡ Ok (f, drop next bytes)
        → (k : ℕ) → w.left ≡ suc k → walk_within inside w.left at (drop at bytes) ≡ (inside at next f >>= λ entries. walk_within inside k next (drop next bytes) >>= λ later. Ok (in_front f entries later))
    front f before inside_bytes is k left =
        let some : 0 < length (drop at bytes) = omega (arith, length-drop at bytes) in
        let place : at + (length (drop at bytes) - length (drop next bytes)) ≡ next = omega (arith, length-drop at bytes, length-drop next bytes) in
        rw left (one_field k at next (drop at bytes) (drop next bytes) f some is place)

    pub walks_on : (f : WireField) (entries : List PlacedEntry) (IsLater : Walked → Type 0) → at < next → next ≤ length bytes → field_at (drop at bytes) ≡ Ok (f, drop next bytes) → inside at next f ≡ Ok entries
        → ((done : Walked) → IsSoFar done → IsLater (with_field done f entries)) → Walks bytes from next IsLater
    walks_on f entries IsLater before inside_bytes is found more =
        let k : ℕ = w.left - 1 in
        let left : w.left ≡ suc k = omega (arith, w.enough) in
        let read : walk_within inside w.left at (drop at bytes) ≡ (walk_within inside k next (drop next bytes) >>= λ later. Ok (in_front f entries later)) =
        front f before inside_bytes is k left ∙ ap (λ (e : Result (List PlacedEntry) CiffRefusal). e >>= λ entries. walk_within inside k next (drop next bytes) >>= λ later. Ok (in_front f entries later)) found in
        record {
          done = with_field w.done f entries;
          left = k;
          enough = omega (arith, w.enough);
          within = inside_bytes;
          read = w.read ∙ ap (λ (r : Result Walked CiffRefusal). r >>= λ later. Ok (joined w.done later)) read ∙ reassoc w.done f entries (walk_within inside k next (drop next bytes));
          so_far = more w.done w.so_far;
        }
      where
        reassoc : (done : Walked) (f : WireField) (entries : List PlacedEntry) (r : Result Walked CiffRefusal)
            → ((r >>= λ later. Ok (in_front f entries later)) >>= λ both. Ok (joined done both)) ≡ (r >>= λ later. Ok (joined (with_field done f entries) later))
        reassoc done f entries (Ok x) = rw (append_assoc done.fields (f ∷ []) x.fields, append_assoc done.entries entries x.entries) refl
        reassoc done f entries (Err r) = refl

    -- a fault inside the field
    pub walks_into : (f : WireField) (refusal : CiffRefusal) → at < next → next ≤ length bytes → field_at (drop at bytes) ≡ Ok (f, drop next bytes) → inside at next f ≡ Err refusal → walk inside from (drop from bytes) ≡ Err refusal
    walks_into f refusal before inside_bytes is found =
        let k : ℕ = w.left - 1 in
        let left : w.left ≡ suc k = omega (arith, w.enough) in
        let read : walk_within inside w.left at (drop at bytes) ≡ Err refusal =
        front f before inside_bytes is k left ∙ ap (λ (e : Result (List PlacedEntry) CiffRefusal). e >>= λ entries. walk_within inside k next (drop next bytes) >>= λ later. Ok (in_front f entries later)) found in
        w.read ∙ ap (λ (r : Result Walked CiffRefusal). r >>= λ later. Ok (joined w.done later)) read

    -- what a function answers for what is inside the field
    pub walks_inside : {A : Type 0} (g : Walked → Result A CiffRefusal) (f : WireField) (answer : CiffFault) → at < next → next ≤ length bytes → field_at (drop at bytes) ≡ Ok (f, drop next bytes) → Fails answer (inside at next f)
        → Fails answer (walk inside from (drop from bytes) >>= g)
    walks_inside g f (faults.Refused refusal) before inside_bytes is fails = ap (λ (r : Result Walked CiffRefusal). r >>= g) (walks_into f refusal before inside_bytes is fails)
    walks_inside g f faults.ReadFault before inside_bytes is fails = absurd fails
    walks_inside g f faults.NoMemory before inside_bytes is fails = tt

  module _ (bytes : List ℕ) (from at : ℕ) (IsSoFar : Walked → Type 0) (w : Walks bytes from at IsSoFar) where
    -- a fault in the field
    pub walks_wrong : (why : WireWhy) → at < length bytes → field_at (drop at bytes) ≡ Err why → walk inside from (drop from bytes) ≡ Err (record { at = at; why = why_of why })
    walks_wrong why before is =
        let k : ℕ = w.left - 1 in
        let left : w.left ≡ suc k = omega (arith, w.enough) in
        let some : 0 < length (drop at bytes) = omega (arith, length-drop at bytes) in
        let read : walk_within inside w.left at (drop at bytes) ≡ Err (record { at = at; why = why_of why }) = rw left (bad_field k at (drop at bytes) why some is) in
        w.read ∙ ap (λ (r : Result Walked CiffRefusal). r >>= λ later. Ok (joined w.done later)) read

    pub walks_end : at ≡ length bytes → walk inside from (drop from bytes) ≡ Ok w.done
    walks_end end =
        let none : drop at bytes ≡ [] = drop_all at bytes (omega arith) in
        let read : walk_within inside w.left at (drop at bytes) ≡ Ok nothing = rw none (no_field w.left at) in
        w.read ∙ ap (λ (r : Result Walked CiffRefusal). r >>= λ later. Ok (joined w.done later)) read ∙ rw (append-nil w.done.fields, append-nil w.done.entries) refl

    -- what a function answers for a fault of the field
    pub walks_refused : {A : Type 0} (f : Walked → Result A CiffRefusal) (fault : WireFault) (answer : CiffFault) → ReadsField bytes at (Err fault) → answer ≡ faults.Refused (record { at = fault.at; why = why_of fault.why })
        → Fails answer (walk inside from (drop from bytes) >>= f)
    walks_refused f fault answer reads is =
        let wrong : walk inside from (drop from bytes) ≡ Err (record { at = fault.at; why = why_of fault.why }) = walks_wrong fault.why reads.1 reads.0 ∙ ap (λ n. Err (record { at = n; why = why_of fault.why })) (sym reads.2) in
        subst (λ (e : CiffFault). Fails e (walk inside from (drop from bytes) >>= f)) (sym is) (ap (λ (r : Result Walked CiffRefusal). r >>= f) wrong)
