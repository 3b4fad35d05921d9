use Rattle.std.proofs.Common.{◌≡◌, List, ℕ, Result, Ok, Err, subst, IfOk}
use Rattle.ciff_read.proofs.Below.{Collection, CollectionData, IsCiff, collection_data}
use Rattle.ciff_read.specs.declared.refusal.CiffFault.{CiffFault}
use Rattle.ciff_read.specs.declared.refusal.CiffRefusal.{CiffRefusal}
use Rattle.ciff_read.specs.Reading.{read_ciff}
use Rattle.ciff_read.specs.Refusals.{Answers}
use Rattle.ciff_read.proofs.collection.read_collection.Goals as goal

stands : (bytes : List ℕ) (r : Result Collection CiffFault) → ((c : CollectionData) → read_ciff bytes ≡ Ok c → IsCiff bytes c) → Answers collection_data r (read_ciff bytes) → IfOk r (λ c. IsCiff bytes (collection_data c))
stands bytes (Ok c) found gives = found (collection_data c) gives
stands bytes (Err fault) found gives = tt

pub returns : goal.returns
returns c =
    let bytes = c.args.bytes.now in
    let result = c.read_messages.result in
    record {
      accepted = stands bytes result (c.files_are_read.ensures.found bytes) c.read_messages.ensures.exact;
      only = λ x is. subst (λ (read : Result CollectionData CiffRefusal). Answers collection_data result read) (c.files_are_read.ensures.only bytes x is) c.read_messages.ensures.exact;
      exact = c.read_messages.ensures.exact;
      few = c.read_messages.ensures.few;
    }
