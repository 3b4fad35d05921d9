-- What a collection keeps, so that its canonical file stands for it.
use Rattle.std.specs.Prelude.{◌≡◌, ◌≤◌, length, map, All}
use Rattle.std.specs.List.{IsDistinct}
use Rattle.std.specs.Str.{bytes_eq}
use Rattle.jass_base.specs.declared.collection.Collection.{Collection}
use Rattle.jass_base.specs.Ciff.{CollectionData, ListData, FitsHeader, FitsList, FitsDoc, postings_count}
use Rattle.jass_base.specs.CiffText.{canonical_ciff}
use Rattle.jass_base.specs.CiffViews.{collection_data}
use Rattle.jass_base.specs.declared.limits.TheConstants.{LONGEST_FILE, MOST_POSTINGS}

-- the numbers, texts, documents and lists are in the ranges and limits of the format, and the file ends by place 2^32
pub record KeepsLimits (c : CollectionData) : Type 0 where
  pub header : FitsHeader c.header (length c.lists) (length c.docs)
  pub average : length c.header.average ≡ 8
  pub lists : All (FitsList (length c.docs)) c.lists
  pub docs : All FitsDoc c.docs
  pub terms_differ : IsDistinct bytes_eq (map (λ (l : ListData). l.term) c.lists)
  pub few_postings : postings_count c.lists ≤ MOST_POSTINGS
  pub short : length (canonical_ciff c) ≤ LONGEST_FILE

-- what the fields of a Collection don't say of it: there are eight bytes of the average (as in their array), and the limits of the whole file
pub record IsWithinFile (c : Collection) : Type 0 where
  pub average : length c.header.average ≡ 8
  pub few_postings : postings_count (collection_data c).lists ≤ MOST_POSTINGS
  pub short : length (canonical_ciff (collection_data c)) ≤ LONGEST_FILE
