use Rattle.std.proofs.Common.{◌≡◌, ℕ, List, [], ◌∷◌, length, map, refl, sym, ap, ◌∙◌, arith}
use Rattle.jass_top.proofs.Below.{DocRecord, DocData, collection_data, doc_data, index_of, index_with, index_data, well_formed}
use Rattle.jass_top.proofs.Sizes.{flat_size, index_size}
use Rattle.jass_top.proofs.import.index_collection.Goals as goal

names_of : (docs : List DocRecord) → map (λ (d : DocData). d.name) (map doc_data docs) ≡ map (λ (d : DocRecord). d.name) docs
names_of [] = refl
names_of (d ∷ docs) = ap (λ (names : List (List ℕ)). d.name ∷ names) (names_of docs)

pub returns-in-Ok-clause-made : goal.returns-in-Ok-clause-made
returns-in-Ok-clause-made c =
    let made = index_data c.in-Ok.index in
    sym (c.an_index_is_that_of_its_flat_list.ensures made (well_formed made (c.indexes_in_memory_are_indexes.ensures.index c.in-Ok.index c.impacts_are_small.ensures)))
    ∙ ap (λ flat. index_with made.names flat) c.in-Ok.ensures.flat
    ∙ ap (λ names. index_with names (index_of (collection_data c.args.collection.now) c.args.rule c.args.bits)) (c.in-Ok.ensures.names ∙ sym (names_of c.args.collection.now.docs))

pub returns-in-Ok-clause-size : goal.returns-in-Ok-clause-size
returns-in-Ok-clause-size c =
    let made = index_data c.in-Ok.index in
    omega (arith, flat_size made, ap length c.in-Ok.ensures.flat, index_size c.args.collection.now c.args.rule c.args.bits)
