-- A document's record whose fields were walked, and what is left to judge of it.
use Rattle.std.specs.Prelude.{ℕ, Bool, not, Result, Ok, Err, if◌then◌else◌}
use Rattle.std.specs.Str.{is_utf8}
use Rattle.jass_base.specs.CiffViews.{doc_data}
use Rattle.jass_base.specs.declared.doc_record.DocRecord.{DocRecord}
use Rattle.ciff_read.specs.declared.refusal.CiffWhy.{CiffWhy}
use Rattle.ciff_read.specs.declared.refusal.CiffWhy.TheVariants.{DocTwice, Text, NameText, Range}
use Rattle.ciff_read.specs.declared.refusal.CiffRefusal.{CiffRefusal}
use Rattle.ciff_read.specs.declared.walked_doc.WalkedDoc.{WalkedDoc}
use Rattle.ciff_read.specs.Judging.{NumberedDoc, over31, is_name}
use Rattle.ciff_read.specs.Private.Places.{numbered_in}
use Rattle.ciff_read.specs.Refusals.{placed}

-- the record, or why it is refused, where its number was seen before or wasn't
abbrev pub judge_rest : Bool → NumberedDoc → Result NumberedDoc CiffWhy
judge_rest seen x =
    if seen then Err DocTwice
    else (if not (is_utf8 x.doc.name) then Err Text
    else (if not (is_name x.doc.name) then Err NameText
    else (if over31 x.doc.length then Err Range
    else Ok x)))

abbrev pub recorded : Bool → ℕ → WalkedDoc → Result NumberedDoc CiffRefusal
recorded seen at d = placed at (judge_rest seen (numbered_in d.fields))

-- the record that was made, with its number
abbrev pub numbered_as : WalkedDoc → DocRecord → NumberedDoc
numbered_as d record_made = record { number = d.fields.docid; doc = doc_data record_made }
