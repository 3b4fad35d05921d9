use Rattle.std.proofs.Common.{drop, flat_map}
use Rattle.ciff_write.proofs.Below.{sized, list_body, list_data, PostingsList, GathersUpTo}
use Rattle.ciff_write.proofs.postings_list.put_lists.Given as goal

abbrev pub invariant-loop-list : goal.invariant-loop-list
invariant-loop-list g l =
    GathersUpTo g.S.Sink.written g.S.Sink.faults g.S.Sink.rest l.fn.out l.out l.fn.buffer l.buffer (flat_map (λ (list : PostingsList). sized (list_body (list_data list))) l.lists)
    (flat_map (λ (list : PostingsList). sized (list_body (list_data list))) (drop l.list-index l.lists))
