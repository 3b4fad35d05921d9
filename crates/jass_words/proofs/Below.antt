-- The names of the crates below that many proofs of this crate cite, passed on from one place. Declares nothing.
pub use Rattle.jass_base.specs.Decimal.{decimal_of, is_decimal}
pub use Rattle.jass_base.specs.declared.answer.Budget.{Budget}
pub use Rattle.jass_base.specs.declared.answer.Budget.TheVariants.{All}
pub use Rattle.query_reader.specs.declared.mode.Mode.{Mode}
pub use Rattle.query_reader.specs.declared.mode.Mode.TheVariants.{Folded, Plain}
pub use Rattle.weights.specs.declared.quantizing.Bits.{Bits}
pub use Rattle.weights.specs.declared.quantizing.Bits.TheVariants.{Of, Raw}
pub use Rattle.weights.specs.declared.weighting.Rule.{Rule}
pub use Rattle.weights.specs.declared.weighting.Rule.TheVariants.{Bm25, Tf}
