use Rattle.shared_lemmas.proofs.Common.{◌≡◌, ◌<◌, ◌+◌, ◌∙◌, AllByRecursion, IsPermutation, recursion_from_All, List, ap, ap₂, arith, false, length, map, subst, sym, with_items_is}
use Rattle.ranking_model.specs.Plan.{plan_of}
use Rattle.ranking_model.specs.Postings.{AreTerms}
use Rattle.index_model.specs.Flat.{numbered_flat}
use Rattle.max_score.specs.Cursors.{unread}
use Rattle.max_score.specs.declared.term_list.TermList.{TermList}
use Rattle.max_score.specs.Private.Unread.{named_by}
use Rattle.max_score.specs.Private.Walking.{HasMet}
use Rattle.max_score.specs.Searches.{AreKnown, SearchView, exhaustive_answer, query_postings}
use Rattle.max_score.proofs.Searching.{all_known, as_many, finished, same_postings}
use Rattle.max_score.proofs.search.MaxScore.answer.Goals as goal

pub read_lists-requires-clause-few : goal.read_lists-requires-clause-few
read_lists-requires-clause-few g c =
    let terms = ap (λ (v : SearchView). length v.terms) c.self.view_is in
    let many = ap (λ (l : List TermList). length l) c.deref_mut.ensures.value ∙ as_many c.self.inside.terms c.self.inside.lists.items (c.self.invariant.named c.if-self.false) in
    omega (arith, many, terms, c.requires.terms.few)

pub read_lists-requires-clause-unread : goal.read_lists-requires-clause-unread
read_lists-requires-clause-unread g c =
    let index = g.S.Source.index c.args.source.now in
    let docs : c.self.inside.docs ≡ length index.names = ap (λ (v : SearchView). v.docs) c.self.view_is ∙ c.requires.docs in
    subst (λ n. AllByRecursion (λ (l : TermList). l.cursor ≡ unread l.cursor.term n) c.deref_mut.result.now) docs
    (subst (AllByRecursion (λ (l : TermList). l.cursor ≡ unread l.cursor.term c.self.inside.docs)) (sym c.deref_mut.ensures.value)
    (recursion_from_All (λ (l : TermList). l.cursor ≡ unread l.cursor.term c.self.inside.docs) c.self.inside.lists.items (c.self.invariant.unread c.if-self.false)))

pub read_lists-requires-clause-known : goal.read_lists-requires-clause-known
read_lists-requires-clause-known g c =
    let index = g.S.Source.index c.args.source.now in
    let terms = ap (λ (v : SearchView). v.terms) c.self.view_is in
    subst (AllByRecursion (λ (l : TermList). l.cursor.term < length index.terms)) (sym c.deref_mut.ensures.value)
    (all_known index c.self.inside.terms c.self.inside.lists.items (c.self.invariant.named c.if-self.false) (subst (λ ts. AreKnown index ts) (sym terms) c.requires.known))

pub returns-clause-steps : goal.returns-clause-steps
returns-clause-steps g c =
    let index = g.S.Source.index c.args.source.now in
    let terms : c.self.inside.terms ≡ c.args.self.now.terms = ap (λ (v : SearchView). v.terms) c.self.view_is in
    let counted = c.read_lists.ensures.steps ∙ ap (λ l. c.args.steps.now + query_postings index (map named_by l)) c.deref_mut.ensures.value
    ∙ ap (λ n. c.args.steps.now + n) (same_postings index c.self.inside.terms c.self.inside.lists.items (c.self.invariant.named c.if-self.false) ∙ ap (query_postings index) terms) in
    let first : c.args.self.now.answered ≡ false = sym (ap (λ (v : SearchView). v.answered) c.self.view_is) ∙ c.if-self.false in
    rw first counted

pub returns-clause-hits : goal.returns-clause-hits
returns-clause-hits g c =
    let index = g.S.Source.index c.args.source.now in
    let docs : c.self.inside.docs ≡ length index.names = ap (λ (v : SearchView). v.docs) c.self.view_is ∙ c.requires.docs in
    let terms : c.self.inside.terms ≡ c.args.self.now.terms = ap (λ (v : SearchView). v.terms) c.self.view_is in
    let asked : c.self.inside.best.k ≡ c.args.self.now.k = ap (λ (v : SearchView). v.k) c.self.view_is in
    let named : IsPermutation c.args.self.now.terms (map named_by c.read_lists.new.lists) =
    subst (λ l. IsPermutation c.args.self.now.terms l) (sym (c.read_lists.ensures.named ∙ ap (map named_by) c.deref_mut.ensures.value))
    (subst (λ ts. IsPermutation ts (map named_by c.self.inside.lists.items)) terms (c.self.invariant.named c.if-self.false)) in
    let size : length c.read_lists.new.lists ≡ c.self.inside.lists.len = omega (arith, c.read_lists.auto.lists, c.deref_mut.ensures.len) in
    let shown : c.deref-2.result.now ≡ c.read_lists.new.lists = c.deref-2.ensures.value ∙ with_items_is c.self.inside.lists c.read_lists.new.lists size in
    let plan = plan_of (length index.names) (numbered_flat index) c.args.self.now.terms in
    finished index c.self.inside.docs c.args.self.now.terms plan c.read_lists.new.lists docs named c.read_lists.ensures.read
    (c.a_plan_has_the_segments_of_its_postings.ensures.docs (length index.names) (numbered_flat index) c.args.self.now.terms)
    (c.a_plan_has_the_segments_of_its_postings.ensures.segments (length index.names) (numbered_flat index) c.args.self.now.terms ∙ c.the_plan_has_the_named_segments.ensures index c.args.self.now.terms c.is_searchable.ensures.is_well_formed c.requires.terms)
    c.args.self.now.k c.walk.new.best c.finish.new.self.hits.items (c.walk.ensures.k ∙ asked)
    (subst (λ (lists : List TermList). HasMet c.self.inside.docs lists c.self.inside.docs c.walk.new.best) shown c.walk.ensures.met) c.finish.ensures.first

pub returns-clause-same : goal.returns-clause-same
returns-clause-same g c = record {
  docs = ap (λ (v : SearchView). v.docs) c.self.view_is;
  terms = ap (λ (v : SearchView). v.terms) c.self.view_is;
  k = c.finish.ensures.k ∙ c.walk.ensures.k ∙ ap (λ (v : SearchView). v.k) c.self.view_is;
}

pub returns-clause-over : goal.returns-clause-over
returns-clause-over g c = record {
  docs = ap (λ (v : SearchView). v.docs) c.self.view_is ∙ c.requires.docs;
  terms = subst AreTerms (sym (ap (λ (v : SearchView). v.terms) c.self.view_is)) c.requires.terms;
  known = subst (AreKnown (g.S.Source.index c.args.source.now)) (sym (ap (λ (v : SearchView). v.terms) c.self.view_is)) c.requires.known;
  answer = λ _. returns-clause-hits g c ∙ ap₂ (exhaustive_answer (g.S.Source.index c.args.source.now)) (sym (ap (λ (v : SearchView). v.terms) c.self.view_is))
      (sym (c.finish.ensures.k ∙ c.walk.ensures.k ∙ ap (λ (v : SearchView). v.k) c.self.view_is));
}

pub first_threshold-self-inside-requires-clause-known : goal.first_threshold-self-inside-requires-clause-known
first_threshold-self-inside-requires-clause-known g c =
    let index = g.S.Source.index c.args.source.now in
    let terms : c.self.inside.terms ≡ c.args.self.now.terms = ap (λ (v : SearchView). v.terms) c.self.view_is in
    let named : IsPermutation c.args.self.now.terms (map named_by c.read_lists.new.lists) =
    subst (λ l. IsPermutation c.args.self.now.terms l) (sym (c.read_lists.ensures.named ∙ ap (map named_by) c.deref_mut.ensures.value))
    (subst (λ ts. IsPermutation ts (map named_by c.self.inside.lists.items)) terms (c.self.invariant.named c.if-self.false)) in
    let size : length c.read_lists.new.lists ≡ c.self.inside.lists.len = omega (arith, c.read_lists.auto.lists, c.deref_mut.ensures.len) in
    let shown : c.deref.result.now ≡ c.read_lists.new.lists = c.deref.ensures.value ∙ with_items_is c.self.inside.lists c.read_lists.new.lists size in
    subst (AllByRecursion (λ (l : TermList). l.cursor.term < length index.terms)) (sym shown) (all_known index c.args.self.now.terms c.read_lists.new.lists named c.requires.known)
