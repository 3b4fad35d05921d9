-- What stands before the payloads is the file, or nothing was touched.
use Rattle.std.proofs.Common.{◌∙◌, map}
use Rattle.index_write.proofs.Below.{file_length, front_bytes}
use Rattle.index_write.specs.Streaming.{entry_data}
use Rattle.index_write.proofs.Begun.{begun, large_or_refused, no_room, not_made}
use Rattle.index_write.proofs.writer.begin.Goals as goal

pub put_front-put-requires-clause-first : goal.put_front-put-requires-clause-first
put_front-put-requires-clause-first g c = c.as_slice.ensures ∙ c.in-Ok.ensures.bytes

pub put_front-put-requires-clause-names : goal.put_front-put-requires-clause-names
put_front-put-requires-clause-names g c = c.requires.names.each

pub put_front-put-requires-clause-fit : goal.put_front-put-requires-clause-fit
put_front-put-requires-clause-fit g c = c.entries_are_small.ensures.fit c.args.entries.now c.requires.entries

pub put_front-put-requires-clause-few : goal.put_front-put-requires-clause-few
put_front-put-requires-clause-few g c = c.entries_are_small.ensures.few c.args.entries.now c.requires.entries

pub returns-in-Err-clause-begun : goal.returns-in-Err-clause-begun
returns-in-Err-clause-begun g c =
    let names = c.args.names.now in
    let entries = map entry_data c.args.entries.now in
    large_or_refused g.C.Cabinet c.args.files.now c.args.name.now (front_bytes names entries) (file_length names entries) c.in-Err.fault c.in-Err.ensures.fault

pub returns-in-Err-from_str-clause-begun : goal.returns-in-Err-from_str-clause-begun
returns-in-Err-from_str-clause-begun g c =
    let names = c.args.names.now in
    let entries = map entry_data c.args.entries.now in
    no_room g.C.Cabinet c.args.files.now c.args.name.now (front_bytes names entries) (file_length names entries) c.in-Ok.ensures.fits

pub returns-in-Ok-put-clause-begun : goal.returns-in-Ok-put-clause-begun
returns-in-Ok-put-clause-begun g c =
    let names = c.args.names.now in
    let entries = map entry_data c.args.entries.now in
    begun g.C.Cabinet c.args.files.now c.put_front-put.new.files c.args.name.now (front_bytes names entries) (file_length names entries) c.in-Ok.ensures.fits c.in-Ok-put.ensures

pub returns-in-Err-put-clause-begun : goal.returns-in-Err-put-clause-begun
returns-in-Err-put-clause-begun g c =
    let names = c.args.names.now in
    let entries = map entry_data c.args.entries.now in
    not_made g.C.Cabinet c.args.files.now c.put_front-put.new.files c.args.name.now (front_bytes names entries) (file_length names entries) c.in-Ok.ensures.fits c.in-Err-put.ensures
