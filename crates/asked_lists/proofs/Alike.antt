-- An index's terms that are among some words answer these words as all of its terms do.
use Rattle.shared_lemmas.proofs.Common.{◌≡◌, ℕ, List, [], ◌∷◌, filter, flat_map, Bool, true, false, refl, sym, ap, ◌∙◌, length, bytes_eq, ◌||◌, AllByRecursion}
use Rattle.asked_lists.specs.Asked.{AnswerAlike, is_asked, words_named}
use Rattle.asked_lists.proofs.Below.{IndexData, Mention, QueryTerm, TermData, numbered_flat, plan_segments, postings_of, query_segments, weighted_postings, words_as_mentions}
use Rattle.ranking_model.specs.Plan.{plan_of}
use Rattle.asked_lists.proofs.Naming.{NamesPassing, as_many_named, same_query_segments, same_unknown}

abbrev pub asked_term : List (List ℕ) → TermData → Bool
asked_term words t = is_asked words t.term

words_reach : (words : List (List ℕ)) (p : TermData → Bool) → ((t : TermData) → is_asked words t.term ≡ true → p t ≡ true) → AllByRecursion (NamesPassing p) (words_as_mentions words)
words_reach [] p has = tt
words_reach (w ∷ words) p has = ((λ t same. has t (rw same refl)), words_reach words p (λ t is. has t (later (bytes_eq t.term w) (is_asked words t.term) is))) where
  later : (a b : Bool) → b ≡ true → (a || b) ≡ true
  later true b is = refl
  later false b is = is

same_plans : (names names' : List (List ℕ)) (one other : IndexData) (terms terms' : List QueryTerm) → names ≡ names' → length terms ≡ length terms'
    → weighted_postings (numbered_flat one) terms ≡ weighted_postings (numbered_flat other) terms'
    → plan_of (length names) (numbered_flat one) terms ≡ plan_of (length names') (numbered_flat other) terms'
unfolding plan_of
same_plans names names' one other terms terms' same as_many postings =
    let sizes : length names ≡ length names' = ap length same in
    let segments : plan_segments (weighted_postings (numbered_flat one) terms) ≡ plan_segments (weighted_postings (numbered_flat other) terms') = ap plan_segments postings in
    cc

pub asked_terms_answer_alike : ((index : IndexData) (query : List QueryTerm) → weighted_postings (numbered_flat index) query ≡ flat_map postings_of (query_segments index query))
    → (words names : List (List ℕ)) (terms : List TermData) → AnswerAlike words (record { names = names; terms = filter (asked_term words) terms }) (record { names = names; terms = terms })
asked_terms_answer_alike weighs words names terms = record {
  names = refl;
  unknown = same_unknown p terms ms reach;
  as_many = as_many_named p terms ms reach;
  postings = same;
  plan = same_plans names names few all (words_named few words) (words_named all words) refl (as_many_named p terms ms reach) same;
} where
  p : TermData → Bool
  p = asked_term words

  ms : List Mention
  ms = words_as_mentions words

  reach : AllByRecursion (NamesPassing p) ms
  reach = words_reach words p (λ t is. is)

  few : IndexData
  few = record { names = names; terms = filter (asked_term words) terms }

  all : IndexData
  all = record { names = names; terms = terms }

  same : weighted_postings (numbered_flat few) (words_named few words) ≡ weighted_postings (numbered_flat all) (words_named all words)
  same = weighs few (words_named few words) ∙ ap (flat_map postings_of) (same_query_segments p terms ms reach) ∙ sym (weighs all (words_named all words))
