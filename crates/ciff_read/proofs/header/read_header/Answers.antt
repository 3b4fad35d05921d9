use Rattle.std.proofs.Common.{ap, sym, ◌∙◌, Ok, List, ℕ}
use Rattle.ciff_read.specs.Private.Places.{message_in, start_in}
use Rattle.ciff_read.specs.Reading.{header_at}
use Rattle.ciff_read.specs.Refusals.{placed}
use Rattle.ciff_read.proofs.Answering.{refuses}
use Rattle.ciff_read.proofs.Parts.{header_walks_not, header_judged}
use Rattle.ciff_read.proofs.header.read_header.Goals as goal

pub returns-in-Err : goal.returns-in-Err
returns-in-Err c = header_walks_not c.args.bytes.now c.args.body c.args.at c.in-Err.fault c.in-Err.ensures

pub returns-in-Err-judge_header : goal.returns-in-Err-judge_header
returns-in-Err-judge_header c =
    refuses c.refused.result _ (header_at c.args.at (message_in c.args.bytes.now c.args.body)) c.refused.ensures
    (header_judged c.args.bytes.now c.args.body c.args.at (start_in c.in-Ok.fields) c.in-Ok.ensures ∙ ap (placed c.args.at) c.in-Err-judge_header.ensures.exact)

pub returns : goal.returns
returns c =
    let h = c.in-Ok.fields in
    header_judged c.args.bytes.now c.args.body c.args.at (start_in h) c.in-Ok.ensures ∙ ap (placed c.args.at) c.in-Ok-judge_header.ensures.exact
    ∙ ap (λ (d : List ℕ). Ok (record {
      header = record {
        version = h.version;
        total_lists = h.total_lists;
        total_docs = h.total_docs;
        total_terms = h.total_terms;
        average = h.average;
        description = d;
      };
      lists = h.lists;
      docs = h.docs;
    })) (sym c.in-Ok-judge_header.ensures.text ∙ sym c.in-Ok-from_str.ensures.bytes)
