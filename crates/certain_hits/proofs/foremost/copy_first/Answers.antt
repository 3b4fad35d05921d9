use Rattle.shared_lemmas.proofs.Common.{ℕ, ◌∙◌, ◌∷◌, ◌++◌, [], IsPermutation, IsPermutation-map, List, Reverse, answers_always, ap, arith, length-map, map, map-append, map_push, rules, subst}
use Rattle.certain_hits.specs.declared.foremost.Reach.{Reach}
use Rattle.certain_hits.specs.Private.Reach.{hit_of}
use Rattle.certain_hits.proofs.Choosing.{in_back, in_front, put_behind}
use Rattle.certain_hits.proofs.foremost.copy_first.Goals as goal

abbrev key : Reach → Reverse ℕ × ℕ
key r = (record { 0 = r.reach }, r.doc)

pub returns-clause-first : goal.returns-clause-first
returns-clause-first c =
    let parts = c.select_nth_unstable_by_key-front.result in
    let front = parts.0.now in
    let last = parts.1.now in
    let split = c.select_nth_unstable_by_key-front.ensures.partitioned key (answers_always _ _ _ (λ f a r f' called. search rules)) in
    let size = c.select_nth_unstable_by_key-front.ensures.front_len in
    let done = c.extend_from_slice.ensures.succeeds (omega (arith, size, c.clear.ensures.len, c.clear.ensures.capacity, c.requires.room, c.requires.some)) in
    let moved = subst (λ (l : List Reach). IsPermutation l (front ++ last ∷ parts.2.now)) c.deref_mut.ensures.value c.select_nth_unstable_by_key-front.ensures.permutation in
    let copied = c.push_reserved.ensures.items ∙ ap (λ (l : List Reach). l ++ last ∷ []) (put_behind _ c.clear.new.self.items front c.extend_from_slice.new.self.items c.extend_from_slice.ensures.items done c.clear.ensures.items) in
    record {
      front = map hit_of front;
      others = map hit_of parts.2.now;
      same = subst (IsPermutation (map hit_of c.args.all.now.items)) (map-append hit_of front (last ∷ parts.2.now)) (IsPermutation-map hit_of c.args.all.now.items (front ++ last ∷ parts.2.now) moved);
      are = ap (map hit_of) copied ∙ map_push hit_of front last;
      size = omega (arith, size, c.requires.some, length-map front hit_of);
      ahead = in_front front last split.0;
      behind = in_back last parts.2.now split.1;
    }
