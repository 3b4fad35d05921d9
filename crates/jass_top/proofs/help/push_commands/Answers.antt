use Rattle.shared_lemmas.proofs.Common.{◌≡◌, ◌+◌, ◌<◌, ◌++◌, ℕ, suc, List, [], ◌∷◌, codes, length, take, arith, sym, ap, ◌∙◌, get_or, append-nil, flat_map-append, take-suc}
use Rattle.std.specs.List.{flat_map}
use Rattle.jass_words.specs.Table.{all_names}
use Rattle.jass_words.specs.declared.names.Name.{Name}
use Rattle.jass_words.specs.declared.names.Name.TheVariants.{Once}
use Rattle.jass_top.specs.HelpMeaning.{row_text}
use Rattle.jass_top.proofs.help.push_commands.Goals as goal

next_row : (names : List Name) (i : ℕ) (d : Name) → i < length names → flat_map row_text (take (i + 1) names) ≡ flat_map row_text (take i names) ++ row_text (get_or names i d)
next_row names i d low =
    let one : i + 1 ≡ suc i = omega arith in
    ap (λ (n : ℕ). flat_map row_text (take n names)) one ∙ ap (flat_map row_text) (take-suc names i d low) ∙ flat_map-append row_text (take i names) (get_or names i d ∷ [])
    ∙ ap (λ (text : List ℕ). flat_map row_text (take i names) ++ text) (append-nil (row_text (get_or names i d)))

pub loop-name-preserved : goal.loop-name-preserved
loop-name-preserved c = record {
  rows = c.push_row.ensures.row ∙ ap (λ (text : List ℕ). text ++ row_text (get_or all_names c.loop-name.name-index Once)) c.loop-name.invariant.rows
      ∙ ap (λ (rows : List ℕ). codes "commands, with * behind the file that is written:\n" ++ rows) (sym (next_row all_names c.loop-name.name-index Once c.loop-name-test.true));
  few = omega (arith, c.push_row.ensures.few, c.loop-name.invariant.few);
}
