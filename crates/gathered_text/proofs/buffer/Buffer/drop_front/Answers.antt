use Rattle.std.proofs.Common.{ℕ, ◌≡◌, ◌+◌, ◌-◌, List, length, drop, take, ap, sym, ◌∙◌, arith, length-drop, length-take}
use Rattle.std.proofs.lemmas.List.{drop-take}
use Rattle.std.proofs.lemmas.List.Edits.{take-paste}
use Rattle.std.proofs.Math.Seq.{paste}
use Rattle.gathered_text.proofs.buffer.Buffer.drop_front.Goals as goal

pub returns : goal.returns
returns c =
    let bytes : List ℕ = c.self.inside.bytes in
    let len : ℕ = c.self.inside.len in
    let count : ℕ = c.args.count in
    let rest : ℕ = len - count in
    let size = ap (λ (xs : List ℕ). length xs) (sym c.self.view_is) ∙ length-take len bytes in
    let whole : count + rest ≡ len = omega (arith, size, c.self.told, c.self.invariant.0, c.requires) in
    let from_first : rest ≡ 0 + rest = omega arith in
    ap (λ (xs : List ℕ). take rest xs) c.copy_within.ensures.after
    ∙ ap (λ n. take n (paste bytes 0 (drop count bytes) rest)) from_first
    ∙ take-paste bytes 0 (drop count bytes) rest (omega arith) (omega (arith, c.self.told, c.self.invariant.0, length-drop count bytes))
    ∙ sym (drop-take count rest bytes)
    ∙ ap (λ n. drop count (take n bytes)) whole
    ∙ ap (λ (xs : List ℕ). drop count xs) c.self.view_is
