-- No refusal of version 1 is that of an older version.
use Rattle.shared_lemmas.proofs.Common.{◌≡◌, ◌≢◌, ℕ, zero, suc, ◌+◌, ◌==◌, not, nat_lt, Bool, true, false, cond, List, [], ◌∷◌, ◌++◌, length, Option, Some, None, Result, Ok, Err, subst, ⊤}
use Rattle.index_version1.proofs.Below.{PayloadFault, IndexData, u16_in, HeadData, TermHeads, Old, Magic, Length, Names, TermOrder, Heads, Payload, DocTwice, Totals, Limit, OpenRefusal, OpenFault, ◌>>=◌, Fails, Check, check, judged, NamesRead, IndexRead, read_heads, payload_placed, read_segment}
use Rattle.index_version1.proofs.Below.{docs_in, shares_one, read_segments, read_payloads, after_payloads, after_terms}
use Rattle.index_layout.specs.declared.refusal.OpenFault.TheVariants as faults
use Rattle.index_layout.specs.Reading.{head_checks, head_end, payload_end, end_checks}
use Rattle.index_version1.specs.Acceptance.{IsOfVersion1}
use Rattle.index_version1.specs.Reading.{front1_checks, read_front1, offset_in, offset_checks, names_place, text_checks, names_from, read_offsets, read_texts, read_names1, term1_in, term1_checks, term1_end, heads1_in, read_terms1, after_names1, after_front1, read_file1, index_in, read_index1}

abbrev Never : {A : Type 0} → Result A OpenRefusal → Type 0
Never (Ok x) = ⊤
Never (Err refusal) = refusal.why ≢ Old

never_bind : {A B : Type 0} (r : Result A OpenRefusal) (f : A → Result B OpenRefusal) → Never r → ((x : A) → Never (f x)) → Never (r >>= f)
never_bind (Ok x) f first later = later x
never_bind (Err refusal) f first later = first

abbrev NoneOld : List Check → Type 0
NoneOld [] = ⊤
NoneOld (c ∷ checks) = (c.why ≢ Old) × NoneOld checks

never_guard : {A : Type 0} (b : Bool) (e : OpenRefusal) (r : Result A OpenRefusal) → e.why ≢ Old → Never r → (let refused : Result A OpenRefusal = Err e in Never (cond b refused r))
never_guard true e r other later = other
never_guard false e r other later = later

never_judged : {A : Type 0} (checks : List Check) (x : A) → NoneOld checks → Never (judged checks x)
never_judged [] x none = tt
never_judged (c ∷ checks) x none = never_guard c.wrong (record { at = c.at; why = c.why }) (judged checks x) none.0 (never_judged checks x none.1)

magic_new : Magic ≢ Old
magic_new same = cc

length_new : Length ≢ Old
length_new same = cc

names_new : Names ≢ Old
names_new same = cc

order_new : TermOrder ≢ Old
order_new same = cc

heads_new : Heads ≢ Old
heads_new same = cc

payload_new : (fault : PayloadFault) → Payload fault ≢ Old
payload_new fault same = cc

twice_new : DocTwice ≢ Old
twice_new same = cc

totals_new : Totals ≢ Old
totals_new same = cc

limit_new : Limit ≢ Old
limit_new same = cc

front_new : (bytes : List ℕ) → Never (read_front1 bytes)
unfolding read_front1 front1_checks
front_new bytes = never_judged (front1_checks bytes) _ (limit_new, (magic_new, (length_new, (limit_new, (limit_new, (limit_new, (totals_new, tt)))))))

offsets_new : (bytes : List ℕ) (k i : ℕ) → NoneOld (offset_checks bytes k i)
offsets_new bytes zero i = tt
offsets_new bytes (suc k) i = (names_new, offsets_new bytes k (i + 1))

texts_new : (bytes : List ℕ) (place k i : ℕ) → NoneOld (text_checks bytes place k i)
texts_new bytes place zero i = tt
texts_new bytes place (suc k) i = (names_new, texts_new bytes place k (i + 1))

offsets_read_new : (bytes : List ℕ) (d : ℕ) → Never (read_offsets bytes d)
unfolding read_offsets
offsets_read_new bytes d = never_judged (check (nat_lt (length bytes) (names_place d)) 40 Length ∷ check (not (offset_in bytes 0 == 0)) 40 Names ∷ offset_checks bytes d 0) (names_place d) (length_new, (names_new, offsets_new bytes d 0))

texts_read_new : (bytes : List ℕ) (d place : ℕ) → Never (read_texts bytes d place)
unfolding read_texts
texts_read_new bytes d place =
    let x : NamesRead = record { names = names_from bytes place d 0; end = place + offset_in bytes d } in
    never_judged (check (nat_lt (length bytes) (place + offset_in bytes d)) place Length ∷ text_checks bytes place d 0) x (length_new, texts_new bytes place d 0)

head_new : (bytes : List ℕ) (d above at : ℕ) → Never (head_end bytes d above at)
unfolding head_end head_checks
head_new bytes d above at = never_judged (head_checks bytes d above at) _ (length_new, (heads_new, (heads_new, (heads_new, tt))))

heads_read_new : (bytes : List ℕ) (d k above at : ℕ) → Never (read_heads bytes d k above at)
heads_read_new bytes d zero above at = tt
heads_read_new bytes d (suc k) above at =
    never_bind (head_end bytes d above at) _ (head_new bytes d above at) (λ next. never_bind (read_heads bytes d k (u16_in bytes at) next) _ (heads_read_new bytes d k (u16_in bytes at) next) (λ later. tt))

term_new : (bytes : List ℕ) (before : Option (List ℕ)) (at : ℕ) → Never (term1_end bytes before at)
unfolding term1_end term1_checks
term_new bytes before at = never_judged (term1_checks bytes before at) _ (length_new, (length_new, (order_new, (heads_new, tt))))

terms_new : (bytes : List ℕ) (d k : ℕ) (before : Option (List ℕ)) (at : ℕ) → Never (read_terms1 bytes d k before at)
terms_new bytes d zero before at = tt
terms_new bytes d (suc k) before at =
    never_bind (term1_end bytes before at) _ (term_new bytes before at) (λ place.
    never_bind (read_heads bytes d (heads1_in bytes at) 65536 place) _ (heads_read_new bytes d (heads1_in bytes at) 65536 place) (λ here.
    never_bind (read_terms1 bytes d k (Some (term1_in bytes at)) here.end) _ (terms_new bytes d k (Some (term1_in bytes at)) here.end) (λ later. tt)))

placed_new : (at : ℕ) (r : Result (List ℕ) PayloadFault) → Never (payload_placed at r)
placed_new at (Ok docs) = tt
placed_new at (Err fault) = payload_new fault

segment_new : (bytes : List ℕ) (d : ℕ) (earlier : List ℕ) (head : HeadData) (at : ℕ) → Never (payload_end bytes d earlier head at)
unfolding payload_end
segment_new bytes d earlier head at =
    let first = judged (check (nat_lt (length bytes) (at + head.size)) at Length ∷ []) (read_segment bytes d head at) in
    never_bind (first >>= payload_placed at) _
    (never_bind first (payload_placed at) (never_judged (check (nat_lt (length bytes) (at + head.size)) at Length ∷ []) (read_segment bytes d head at) (length_new, tt)) (placed_new at))
    (λ docs. never_judged (check (shares_one earlier docs) at DocTwice ∷ []) (at + head.size) (twice_new, tt))

segments_new : (bytes : List ℕ) (d : ℕ) (earlier : List ℕ) (heads : List HeadData) (at : ℕ) → Never (read_segments bytes d earlier heads at)
segments_new bytes d earlier [] at = tt
segments_new bytes d earlier (head ∷ heads) at =
    never_bind (payload_end bytes d earlier head at) _ (segment_new bytes d earlier head at) (λ next.
    never_bind (read_segments bytes d (earlier ++ docs_in bytes d head at) heads next) _ (segments_new bytes d (earlier ++ docs_in bytes d head at) heads next) (λ later. tt))

payloads_new : (bytes : List ℕ) (d : ℕ) (terms : List TermHeads) (at : ℕ) → Never (read_payloads bytes d terms at)
payloads_new bytes d [] at = tt
payloads_new bytes d (t ∷ terms) at =
    never_bind (read_segments bytes d [] t.heads at) _ (segments_new bytes d [] t.heads at) (λ here.
    never_bind (read_payloads bytes d terms here.end) _ (payloads_new bytes d terms here.end) (λ later. tt))

end_new : (bytes : List ℕ) (names : List (List ℕ)) (terms : List TermHeads) (x : IndexRead) → Never (after_payloads bytes names terms x)
unfolding end_checks
end_new bytes names terms x = never_judged (end_checks bytes terms x.end) _ (length_new, (totals_new, (totals_new, tt)))

file_new : (bytes : List ℕ) → Never (read_file1 bytes)
unfolding read_file1
file_new bytes =
    never_bind (read_front1 bytes) (after_front1 bytes) (front_new bytes) (λ front.
    never_bind (read_names1 bytes front.docs) (after_names1 bytes front) (never_bind (read_offsets bytes front.docs) (read_texts bytes front.docs) (offsets_read_new bytes front.docs) (texts_read_new bytes front.docs)) (λ x.
    never_bind (read_terms1 bytes front.docs front.terms None x.end) (after_terms bytes front x.names) (terms_new bytes front.docs front.terms None x.end) (λ y.
    never_bind (read_payloads bytes front.docs y.terms y.end) (after_payloads bytes x.names y.terms) (payloads_new bytes front.docs y.terms y.end) (end_new bytes x.names y.terms))))

index_new : (bytes : List ℕ) → Never (read_index1 bytes)
unfolding read_index1
index_new bytes = never_bind (read_file1 bytes) index_in (file_new bytes) (λ v. tt)

by_read : (refusal : OpenRefusal) (r : Result IndexData OpenRefusal) → Never r → r ≡ Err refusal → refusal.why ≢ Old
by_read refusal (Ok x) never read = absurd cc
by_read refusal (Err other) never read = let same : other ≡ refusal = cc in subst (λ (r : OpenRefusal). r.why ≢ Old) same never

pub never_old : (bytes : List ℕ) (e : OpenFault) → Fails e (read_index1 bytes) → IsOfVersion1 e
never_old bytes (faults.Refused refusal) fails = by_read refusal (read_index1 bytes) (index_new bytes) fails
never_old bytes faults.ReadFault fails = fails
never_old bytes faults.NoMemory fails = tt
