-- The lists that are read are those of the messages, and those of the messages are read.
use Rattle.shared_lemmas.proofs.Common.{◌≡◌, ℕ, zero, suc, ◌+◌, ◌^◌, ◌≤◌, false, List, [], ◌∷◌, ◌++◌, length, map, Result, Ok, refl, sym, ap, subst, ◌∙◌, append_assoc, arith, ◌||◌, ⊤, bytes_eq, AllZip, AllByRecursion, nat_list_eq_equiv, length-append, list_any-append, sum_by-cons, or_parts}
use Rattle.shared_lemmas.proofs.Common.{or_from}
use Rattle.std.specs.List.{IsDistinct}
use Rattle.ciff_read.proofs.Below.{ListData, IsList, postings_count, Spells, IsSized}
use Rattle.ciff_read.specs.declared.refusal.CiffRefusal.{CiffRefusal}
use Rattle.ciff_read.specs.Reading.{Message, ListsRead, message_end, message_at, list_at, lists_at}
use Rattle.ciff_read.specs.Refusals.{◌>>=◌}
use Rattle.ciff_read.specs.Seen.{is_seen}
use Rattle.ciff_read.proofs.MessageLaws.{message_found, message_only}
use Rattle.ciff_read.proofs.PartLaws.{list_found, list_read}
use Rattle.ciff_read.proofs.WireLaws.{WireLaws, bound, done_is}

-- ---- terms that differ

-- each term is new behind those before
abbrev pub AreNew : List (List ℕ) → List ListData → Type 0
AreNew terms [] = ⊤
AreNew terms (l ∷ ls) = (is_seen l.term terms ≡ false) × AreNew (terms ++ l.term ∷ []) ls

seen-snoc : (u t : List ℕ) (terms : List (List ℕ)) → is_seen u (terms ++ t ∷ []) ≡ (is_seen u terms || (bytes_eq u t || false))
seen-snoc u t terms = list_any-append (bytes_eq u) terms (t ∷ [])

unseen_parts : (u t : List ℕ) (terms : List (List ℕ)) → is_seen u (terms ++ t ∷ []) ≡ false → (is_seen u terms ≡ false) × (bytes_eq u t ≡ false)
unseen_parts u t terms h =
    let a = or_parts (is_seen u terms) (bytes_eq u t || false) (sym (seen-snoc u t terms) ∙ h) in
    let b = or_parts (bytes_eq u t) false a.1 in
    (a.0, b.0)

apart_from : (t : List ℕ) (terms : List (List ℕ)) (ls : List ListData) → ((u : List ℕ) → is_seen u terms ≡ false → bytes_eq t u ≡ false) → AreNew terms ls → AllByRecursion (λ u. bytes_eq t u ≡ false) (map (λ (l : ListData). l.term) ls)
apart_from t terms [] holds new = tt
apart_from t terms (l ∷ ls) holds new = (holds l.term new.0, apart_from t (terms ++ l.term ∷ []) ls (λ u h. holds u (unseen_parts u l.term terms h).0) new.1)

pub distinct_found : (terms : List (List ℕ)) (ls : List ListData) → AreNew terms ls → IsDistinct bytes_eq (map (λ (l : ListData). l.term) ls)
unfolding IsDistinct
distinct_found terms [] new = tt
distinct_found terms (l ∷ ls) new = (apart_from l.term (terms ++ l.term ∷ []) ls (λ u h. nat_list_eq_equiv.symm l.term u ∙ (unseen_parts u l.term terms h).1) new.1, distinct_found (terms ++ l.term ∷ []) ls new.1)

unseen_on : (t : List ℕ) (terms : List (List ℕ)) (ls : List ListData) → AllByRecursion (λ (l : ListData). is_seen l.term terms ≡ false) ls → AllByRecursion (λ u. bytes_eq t u ≡ false) (map (λ (l : ListData). l.term) ls) → AllByRecursion (λ (l : ListData). is_seen l.term (terms ++ t ∷ []) ≡ false) ls
unseen_on t terms [] h k = tt
unseen_on t terms (l ∷ ls) h k =
    (seen-snoc l.term t terms ∙ or_from (is_seen l.term terms) (bytes_eq l.term t || false) h.0 (or_from (bytes_eq l.term t) false (nat_list_eq_equiv.symm l.term t ∙ k.0) refl), unseen_on t terms ls h.1 k.1)

pub new_there : (terms : List (List ℕ)) (ls : List ListData) → AllByRecursion (λ (l : ListData). is_seen l.term terms ≡ false) ls → IsDistinct bytes_eq (map (λ (l : ListData). l.term) ls) → AreNew terms ls
unfolding IsDistinct
new_there terms [] h k = tt
new_there terms (l ∷ ls) h k = (h.0, new_there (terms ++ l.term ∷ []) ls (unseen_on l.term terms ls h.1 k.0) k.1)

pub all_unseen : (ls : List ListData) → AllByRecursion (λ (l : ListData). is_seen l.term [] ≡ false) ls
all_unseen [] = tt
all_unseen (l ∷ ls) = (refl, all_unseen ls)

-- ---- messages

count-cons : (l : ListData) (ls : List ListData) → postings_count (l ∷ ls) ≡ length l.postings + postings_count ls
count-cons l ls = sum_by-cons (λ n. n) (length l.postings) (map (λ (x : ListData). length x.postings) ls)

-- messages in front of other bytes
pub spells-front : (first rest tail s : List ℕ) → s ≡ first ++ rest → s ++ tail ≡ first ++ (rest ++ tail)
spells-front first rest tail s parts = ap (λ (t : List ℕ). t ++ tail) parts ∙ append_assoc first rest tail

pub record ListsFound (n docs before : ℕ) (terms : List (List ℕ)) (at : ℕ) (s : List ℕ) (x : ListsRead) : Type 0 where
  pub front : List ℕ
  pub bodies : List (List ℕ)
  pub parts : s ≡ front ++ x.rest
  pub messages : Spells IsSized front bodies
  pub are : AllZip (IsList docs) bodies x.lists
  pub count : length x.lists ≡ n
  pub ends : x.at ≡ at + length front
  pub short : x.at ≤ 2 ^ 32
  pub few : before + postings_count x.lists ≤ 2 ^ 29
  pub new : AreNew terms x.lists

module _ (laws : WireLaws) where
  pub lists_found : (n docs before : ℕ) (terms : List (List ℕ)) (at : ℕ) (s : List ℕ) (x : ListsRead) → docs ≤ 2 ^ 26 → before ≤ 2 ^ 29 → at ≤ 2 ^ 32 → lists_at n docs before terms at s ≡ Ok x → ListsFound n docs before terms at s x
  unfolding lists_at
  lists_found zero docs before terms at s x few_docs few_before short is =
      subst (ListsFound zero docs before terms at s) (done_is (record { lists = []; at = at; rest = s }) x is) (record { front = []; bodies = []; parts = refl; messages = refl; are = tt; count = refl; ends = omega arith; short = short; few = omega arith; new = tt })
  lists_found (suc n) docs before terms at s x few_docs few_before short is =
      let a = bound (message_at at s) (λ m. list_at docs before terms at m >>= λ list. lists_at n docs (before + length list.postings) (terms ++ list.term ∷ []) (message_end m) m.rest >>= λ later. Ok (record { lists = list ∷ later.lists; at = later.at; rest = later.rest })) x is in
      let m = a.0 in
      let b = bound (list_at docs before terms at m) (λ list. lists_at n docs (before + length list.postings) (terms ++ list.term ∷ []) (message_end m) m.rest >>= λ later. Ok (record { lists = list ∷ later.lists; at = later.at; rest = later.rest })) x a.2 in
      let l = b.0 in
      let d = bound (lists_at n docs (before + length l.postings) (terms ++ l.term ∷ []) (message_end m) m.rest) (λ later. Ok (record { lists = l ∷ later.lists; at = later.at; rest = later.rest })) x b.2 in
      let f = message_found laws at s m a.1 in
      let g = list_found laws docs before terms at m l few_docs few_before b.1 in
      let h = lists_found n docs (before + length l.postings) (terms ++ l.term ∷ []) (message_end m) m.rest d.0 few_docs g.few f.short d.1 in
      subst (ListsFound (suc n) docs before terms at s) (done_is (record { lists = l ∷ d.0.lists; at = d.0.at; rest = d.0.rest }) x d.2) (record {
        front = f.first ++ h.front;
        bodies = m.body ∷ h.bodies;
        parts = f.parts ∙ ap (λ (t : List ℕ). f.first ++ t) h.parts ∙ sym (append_assoc f.first h.front d.0.rest);
        messages = (f.first, h.front, refl, f.sized, h.messages);
        are = (g.is, h.are);
        count = ap suc h.count;
        ends = omega (arith, h.ends, f.ends, length-append f.first h.front);
        short = h.short;
        few = omega (arith, h.few, count-cons l d.0.lists);
        new = (g.unseen, h.new);
      })

  pub lists_read : (docs before : ℕ) (terms : List (List ℕ)) (at : ℕ) (front rest : List ℕ) (bodies : List (List ℕ)) (ls : List ListData) → docs ≤ 2 ^ 26
      → Spells IsSized front bodies → AllZip (IsList docs) bodies ls → AreNew terms ls → before + postings_count ls ≤ 2 ^ 29
      → at + length front ≤ 2 ^ 32
      → lists_at (length ls) docs before terms at (front ++ rest) ≡ Ok (record { lists = ls; at = at + length front; rest = rest })
  unfolding lists_at
  lists_read docs before terms at front rest [] [] few_docs messages are new few short =
      let size = ap (λ (t : List ℕ). length t) messages in
      let place : at ≡ at + length front = omega arith in
      ap (λ (t : List ℕ). Ok (record { lists = []; at = at; rest = t ++ rest })) messages ∙ ap (λ n. Ok (record { lists = []; at = n; rest = rest })) place
  lists_read docs before terms at front rest [] (l ∷ ls) few_docs messages are new few short = absurd are
  lists_read docs before terms at front rest (body ∷ bodies) [] few_docs messages are new few short = absurd are
  lists_read docs before terms at front rest (body ∷ bodies) (l ∷ ls) few_docs messages are new few short =
      let first = messages.0 in
      let other = messages.1 in
      let sized = messages.3 in
      let size = ap (λ (t : List ℕ). length t) messages.2 in
      let parts = spells-front first other rest front messages.2 in
      let fits : at + length first ≤ 2 ^ 32 = omega (arith, length-append first other) in
      let m : Message = record { from = at + length sized.size; body = body; rest = other ++ rest } in
      let read : message_at at (front ++ rest) ≡ Ok m = ap (message_at at) parts ∙ message_only laws at first body (other ++ rest) sized fits in
      let whole = ap (λ (t : List ℕ). length t) sized.parts in
      let ends : message_end m ≡ at + length first = omega (arith, length-append sized.size body) in
      let list = list_read laws docs before terms at (at + length sized.size) body (other ++ rest) l few_docs (record { is = are.0; unseen = new.0; few = omega (arith, few, count-cons l ls) }) in
      let inner = lists_read docs (before + length l.postings) (terms ++ l.term ∷ []) (at + length first) other rest bodies ls few_docs messages.4 are.1 new.1 (omega (arith, few, count-cons l ls)) (omega (arith, length-append first other)) in
      let place : at + length first + length other ≡ at + length front = omega (arith, length-append first other) in
      ap (λ (r : Result Message CiffRefusal). r >>= λ m. list_at docs before terms at m >>= λ list. lists_at (length ls) docs (before + length list.postings)
      (terms ++ list.term ∷ []) (message_end m) m.rest >>= λ later. Ok (record { lists = list ∷ later.lists; at = later.at; rest = later.rest })) read
      ∙ ap (λ (r : Result ListData CiffRefusal). r >>= λ list. lists_at (length ls) docs (before + length list.postings) (terms ++ list.term ∷ []) (message_end m) m.rest >>= λ later. Ok (record { lists = list ∷ later.lists; at = later.at; rest = later.rest })) list
      ∙ ap (λ n. lists_at (length ls) docs (before + length l.postings) (terms ++ l.term ∷ []) n (other ++ rest) >>= λ later. Ok (record { lists = l ∷ later.lists; at = later.at; rest = later.rest })) ends
      ∙ ap (λ (r : Result ListsRead CiffRefusal). r >>= λ later. Ok (record { lists = l ∷ later.lists; at = later.at; rest = later.rest })) inner
      ∙ ap (λ n. Ok (record { lists = l ∷ ls; at = n; rest = rest })) place
