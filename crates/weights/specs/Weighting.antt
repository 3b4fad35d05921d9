-- The weight of a posting: how often its term stands in its document, or BM25 in whole numbers
-- (Robertson and others, "Okapi at TREC-3", 1994), with k1 = 0.9 and b = 0.4.
use Rattle.std.specs.Prelude.{ℕ, ◌+◌, ◌-◌, ◌*◌, ◌/◌, max}
use Rattle.weights.specs.declared.weighting.Rule.{Rule}
use Rattle.weights.specs.declared.weighting.Rule.TheVariants.{Tf, Bm25}
use Rattle.weights.specs.Logarithm.{lg}

-- how rare a term with n postings is among the documents: 1024 * log2((docs + 1) / n)
abbrev pub idf : ℕ → ℕ → ℕ
idf docs n = lg (1024 * (docs + 1) / n) - 10240

-- BM25's K times 1000, for an average length of total / docs: 1000 * k1 * (1 - b + b * length / average)
abbrev pub length_norm : ℕ → ℕ → ℕ → ℕ
length_norm docs total length = (540 * total + 360 * length * docs) / total

-- BM25 of a term's idf and a document's K, with both parts of the quotient times 1000: idf * (k1 + 1) * tf / (tf + K)
abbrev pub saturated : ℕ → ℕ → ℕ → ℕ
saturated rare tf norm = rare * 1900 * tf / (1000 * tf + norm)

-- BM25 itself
abbrev pub bm25 : ℕ → ℕ → ℕ → ℕ → ℕ → ℕ
bm25 docs total n tf length = saturated (idf docs n) tf (length_norm docs total length)

-- the weight of a posting, which BM25 raises to 1 at least
abbrev pub weight_of : Rule → ℕ → ℕ → ℕ → ℕ → ℕ → ℕ
weight_of Tf docs total n tf length = tf
weight_of Bm25 docs total n tf length = max 1 (bm25 docs total n tf length)
