use Rattle.shared_lemmas.proofs.Common.{◌+◌, ◌-◌, suc, drop, ◌∙◌, ◌∷◌, [], ◌++◌, ap, sym, subst, List, ℕ, ◌≡◌, map, All, length, arith, false, AllPairs, Err, rules, map-append, length-append, All-append, All-nil}
use Rattle.ciff_read.proofs.Below.{PostingsList, HasDocsBelow, DifferInTerm, ListData, list_data}
use Rattle.ciff_read.specs.Private.Places.{message_in}
use Rattle.ciff_read.specs.Reading.{lists_at}
use Rattle.ciff_read.proofs.Sequences.{with_lists, no_lists, lists_end, lists_message_not, lists_list_not, lists_on, end_there}
use Rattle.ciff_read.specs.Seen.{is_seen}
use Rattle.ciff_read.proofs.Postings.{All-one}
use Rattle.ciff_read.proofs.TermLists.{differ-snoc}
use Rattle.ciff_read.proofs.Counting.{count_none, count_more}
use Rattle.ciff_read.proofs.collection.fill_lists.Goals as goal

pub lists-preserved : goal.lists-preserved
lists-preserved c =
    let lists = c.lists.lists in
    let list = c.in_ok-list.list in
    let put = c.in-Ok.ensures.ok in
    let seen = subst (λ (terms : List (List ℕ)). is_seen list.term terms ≡ false) c.lists.invariant.terms c.in_ok-list.ensures.new in
    let total = lists_at c.args.count c.args.docs 0 [] c.args.from (drop c.args.from c.args.bytes.now) in
    let left = c.args.count - (c.lists.counter + 1) in
    let more : c.args.count - c.lists.counter ≡ suc left = omega arith in
    let before = c.lists.before in
    let keys = map (λ t. t.now) c.lists.terms.keys in
    let rest = drop c.in_ok-body.body.end c.args.bytes.now in
    let front = map list_data lists in
    record {
      read = lists_on total (c.args.count - c.lists.counter) c.args.docs before keys c.lists.at (drop c.lists.at c.args.bytes.now) front c.lists.invariant.read left more (message_in c.args.bytes.now c.in_ok-body.body) c.in_ok-body.ensures.0 (list_data list) c.in_ok-list.ensures.exact
          ∙ ap (λ n. with_lists (front ++ list_data list ∷ []) (lists_at left c.args.docs (before + length list.postings) (keys ++ list.term ∷ []) n rest)) (end_there c.args.bytes.now c.in_ok-body.body c.in_ok-body.ensures.2)
          ∙ ap (λ n. with_lists (front ++ list_data list ∷ []) (lists_at left c.args.docs (before + n) (keys ++ list.term ∷ []) c.in_ok-body.body.end rest)) (sym c.len.ensures)
          ∙ ap (λ (ts : List (List ℕ)). with_lists (front ++ list_data list ∷ []) (lists_at left c.args.docs (before + c.len.result) ts c.in_ok-body.body.end rest)) (sym c.in_ok-list.ensures.terms)
          ∙ ap (λ (ls : List ListData). with_lists ls (lists_at left c.args.docs (before + c.len.result) (map (λ t. t.now) c.read_list.new.terms.keys) c.in_ok-body.body.end rest)) (sym (map-append list_data lists (list ∷ [])) ∙ ap (λ (ls : List PostingsList). map list_data ls) (sym put));
      within = c.in_ok-body.ensures.2;
      few = omega (arith, c.in_ok-list.ensures.few, c.len.ensures);
      counted = count_more lists c.push.new.self list c.lists.before c.len.result put c.lists.invariant.counted c.len.ensures;
      count = ap length put ∙ length-append lists (list ∷ []) ∙ omega (arith, c.lists.invariant.count);
      below = subst (All (HasDocsBelow c.args.docs)) (sym put) (All-append (HasDocsBelow c.args.docs) lists (list ∷ []) c.lists.invariant.below (All-one (HasDocsBelow c.args.docs) list c.in_ok-list.ensures.below));
      terms = c.in_ok-list.ensures.terms ∙ ap (λ (terms : List (List ℕ)). terms ++ list.term ∷ []) c.lists.invariant.terms ∙ sym (map-append (λ (l : PostingsList). l.term) lists (list ∷ [])) ∙ ap (map (λ (l : PostingsList). l.term)) (sym put);
      differ = subst (AllPairs DifferInTerm) (sym put) (differ-snoc lists list c.lists.invariant.differ seen);
    }

pub returns-in_err-body-clause-exact : goal.returns-in_err-body-clause-exact
returns-in_err-body-clause-exact c =
    let total = lists_at c.args.count c.args.docs 0 [] c.args.from (drop c.args.from c.args.bytes.now) in
    let left = c.args.count - (c.lists.counter + 1) in
    let more : c.args.count - c.lists.counter ≡ suc left = omega arith in
    let out : c.from_residual.result ≡ Err c.in_err-body.field-0.0 = search rules in
    rw out (lists_message_not total (c.args.count - c.lists.counter) c.args.docs c.lists.before (map (λ t. t.now) c.lists.terms.keys) c.lists.at (drop c.lists.at c.args.bytes.now) (map list_data c.lists.lists) c.lists.invariant.read left more c.in_err-body.field-0.0 c.in_err-body.ensures)

pub returns-in_err-list-clause-exact : goal.returns-in_err-list-clause-exact
returns-in_err-list-clause-exact c =
    let total = lists_at c.args.count c.args.docs 0 [] c.args.from (drop c.args.from c.args.bytes.now) in
    let left = c.args.count - (c.lists.counter + 1) in
    let more : c.args.count - c.lists.counter ≡ suc left = omega arith in
    let out : c.from_residual-in_err-list.result ≡ Err c.in_err-list.field-0.0 = search rules in
    rw out (lists_list_not total (c.args.count - c.lists.counter) c.args.docs c.lists.before (map (λ t. t.now) c.lists.terms.keys) c.lists.at
    (drop c.lists.at c.args.bytes.now) (map list_data c.lists.lists) c.lists.invariant.read left more
    (message_in c.args.bytes.now c.in_ok-body.body) c.in_ok-body.ensures.0 c.in_err-list.field-0.0 c.in_err-list.ensures.exact)

pub returns-clause-exact : goal.returns-clause-exact
returns-clause-exact c =
    let total = lists_at c.args.count c.args.docs 0 [] c.args.from (drop c.args.from c.args.bytes.now) in
    let none : c.args.count - c.lists.counter ≡ 0 = omega arith in
    lists_end total (c.args.count - c.lists.counter) c.args.docs c.lists.before (map (λ t. t.now) c.lists.terms.keys) c.lists.at (drop c.lists.at c.args.bytes.now) (map list_data c.lists.lists) c.lists.invariant.read none

pub lists-init : goal.lists-init
lists-init c =
    let s = drop c.args.from c.args.bytes.now in
    let total = lists_at c.args.count c.args.docs 0 [] c.args.from s in
    let none = c.requires.lists in
    let keys = map (λ t. t.now) c.args.terms.now.keys in
    let no_keys : keys ≡ [] = ap (map (λ t. t.now)) c.requires.terms in
    let all : c.args.count ≡ c.args.count - 0 = omega arith in
    record {
      read = no_lists total
          ∙ ap (λ n. with_lists [] (lists_at n c.args.docs 0 [] c.args.from s)) all
          ∙ ap (λ (ts : List (List ℕ)). with_lists [] (lists_at (c.args.count - 0) c.args.docs 0 ts c.args.from s)) (sym no_keys)
          ∙ ap (λ (ls : List PostingsList). with_lists (map list_data ls) (lists_at (c.args.count - 0) c.args.docs 0 keys c.args.from s)) (sym none);
      within = c.requires.from;
      few = omega arith;
      counted = count_none c.args.lists.now none;
      count = ap length none;
      below = subst (All (HasDocsBelow c.args.docs)) (sym none) (All-nil (HasDocsBelow c.args.docs));
      terms = no_keys ∙ ap (λ (ls : List PostingsList). map (λ (l : PostingsList). l.term) ls) (sym none);
      differ = λ i j d before inside. absurd (let size = ap length none in omega arith);
    }
