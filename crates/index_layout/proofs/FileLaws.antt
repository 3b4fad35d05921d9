-- Files are read as they are written.
use Rattle.shared_lemmas.proofs.Common.{map, ◌∷◌, ◌≡◌, ℕ, ◌+◌, ◌<◌, ◌≤◌, ◌^◌, ◌==◌, ◌||◌, not, false, nat_lt, nat_eq, List, [], ◌++◌, length, take, drop, All, Some, None, Result, Ok, ap, sym, subst, ◌∙◌, refl, arith, starts_with, nat_tests, length-append, drop_all, take-append-drop, length-map}
use Rattle.shared_lemmas.proofs.Common.{bytes_eq-Decides, or_parts, not-false}
use borrow.Author.Tests.{ltb-false, eqb-true}
use Rattle.std.proofs.lemmas.List.{append_assoc, append-nil}
use Rattle.jass_base.specs.Gaps.{AreDocs}
use Rattle.jass_base.specs.Limits.{IsName, IsText}
use Rattle.segment_codecs.specs.declared.codec.Codec.{Codec}
use Rattle.segment_codecs.specs.Codecs.{chosen_codec, codec_number, codec_of, payload_of, read_payload}
use Rattle.index_model.specs.Index.{SegmentData, TermData, IndexData, IsIndex}
use Rattle.index_layout.specs.Bytes.{u32_in, u64_in, u32_bytes, u64_bytes}
use Rattle.index_layout.specs.Heads.{TermHeads, terms_heads, head_postings, payloads_size, greatest_impact}
use Rattle.index_layout.specs.Layout.{magic, old_magic, names_bytes, terms_bytes, file_length, totals_bytes, front_bytes, terms_payloads}
use Rattle.index_layout.specs.View.{FileView, IsFileView, HaveCodecs, view_heads, view_payloads, file_bytes, index_postings, chosen_codecs, chosen_view, index_text}
use Rattle.index_layout.specs.declared.refusal.OpenRefusal.{OpenRefusal}
use Rattle.index_layout.specs.Refusals.{◌>>=◌}
use Rattle.index_layout.specs.Reading.{Front, NamesRead, TermsRead, IndexRead, front_checks, read_front, read_names, read_terms, read_payloads, head_codecs, end_checks, after_payloads, after_terms, after_names, after_front, read_index}
use Rattle.index_layout.proofs.Judging.{bind_ok, judged_ok, judged_all, behind, reaches}
use Rattle.index_layout.proofs.Numbers.{Fit, u32_found, u64_found, u32_only, u64_only}
use Rattle.index_layout.proofs.NameLaws.{NamesAre, names_found, names_only}
use Rattle.index_layout.proofs.TermLaws.{TermsRise, TermsAre, terms_found, terms_only}
use Rattle.index_layout.proofs.IndexFacts.{TermsStand, index_found, index_only}
use Rattle.index_layout.proofs.PayloadLaws.{PayloadsAre, terms_rise, payloads_found, payloads_only}
use Rattle.index_layout.proofs.Sums.{all_codecs_back, all_counted, all_sized, greatest_small, heads_length}
use Rattle.shared_lemmas.proofs.Results.{ok_same}

abbrev pub Found : Type 0
Found = (codec : Codec) (d count : ℕ) (docs bytes : List ℕ) → AreDocs d docs → length docs ≡ count → bytes ≡ payload_of codec d docs → read_payload codec d count bytes ≡ Ok docs

abbrev pub Only : Type 0
Only = (codec : Codec) (d count : ℕ) (docs bytes : List ℕ) → 1 ≤ count → d ≤ 2 ^ 26 → All (λ byte. byte < 256) bytes → read_payload codec d count bytes ≡ Ok docs → AreDocs d docs × (length docs ≡ count) × (bytes ≡ payload_of codec d docs)

abbrev pub Numbered : Type 0
Numbered = (codec : Codec) (number : ℕ) → codec_of number ≡ Some codec → codec_number codec ≡ number

pub step : {A B : Type 0} (r : Result A OpenRefusal) (f : A → Result B OpenRefusal) (x : A) → r ≡ Ok x → (r >>= f) ≡ f x
step r f x is = ap (λ r. r >>= f) is

-- the first 40 bytes with these numbers, behind the 8 that tell the version
abbrev pub first_bytes : (mark : List ℕ) (l d n p g : ℕ) → List ℕ → List ℕ
first_bytes mark l d n p g rest = mark ++ (u64_bytes l ++ (u32_bytes d ++ (u32_bytes n ++ (u64_bytes p ++ (u32_bytes g ++ (u32_bytes 0 ++ rest))))))

abbrev pub front_of : ℕ → ℕ → Result Front OpenRefusal
front_of d n = Ok (record { docs = d; terms = n })

record FrontThere (bytes rest : List ℕ) (d n p g : ℕ) : Type 0 where
  pub read : read_front bytes ≡ Ok (record { docs = d; terms = n })
  pub postings : u64_in bytes 24 ≡ p
  pub greatest : u32_in bytes 32 ≡ g
  pub long : 40 ≤ length bytes
  pub stands : drop 40 bytes ≡ rest

front_found : (bytes rest : List ℕ) (l d n p g : ℕ) → bytes ≡ first_bytes magic l d n p g rest → l ≡ length bytes → length bytes ≤ 2 ^ 32 → d ≤ 2 ^ 26 → n ≤ 2 ^ 24 → p ≤ 2 ^ 29 → g ≤ 65536 → FrontThere bytes rest d n p g
unfolding read_front front_checks
front_found bytes rest l d n p g spelled whole short docs terms few small =
    let tail = u32_bytes 0 ++ rest in
    let length_is : u64_in bytes 8 ≡ l = u64_found bytes 8 l (u32_bytes d ++ (u32_bytes n ++ (u64_bytes p ++ (u32_bytes g ++ tail)))) (omega (arith, whole, short)) (ap (drop 8) spelled) in
    let docs_are : u32_in bytes 16 ≡ d = u32_found bytes 16 d (u32_bytes n ++ (u64_bytes p ++ (u32_bytes g ++ tail))) (omega (arith, docs)) (ap (drop 16) spelled) in
    let terms_are : u32_in bytes 20 ≡ n = u32_found bytes 20 n (u64_bytes p ++ (u32_bytes g ++ tail)) (omega (arith, terms)) (ap (drop 20) spelled) in
    let postings : u64_in bytes 24 ≡ p = u64_found bytes 24 p (u32_bytes g ++ tail) (omega (arith, few)) (ap (drop 24) spelled) in
    let greatest : u32_in bytes 32 ≡ g = u32_found bytes 32 g tail (omega (arith, small)) (ap (drop 32) spelled) in
    let zero_is : u32_in bytes 36 ≡ 0 = u32_found bytes 36 0 rest (omega arith) (ap (drop 36) spelled) in
    let long : 40 ≤ length bytes = (let e = ap length spelled in omega (arith, e)) in
    let a : nat_lt (2 ^ 32) (length bytes) ≡ false = grind (arith) in
    let b : starts_with nat_eq bytes old_magic ≡ false = ap (λ b. starts_with nat_eq b old_magic) spelled in
    let c : not (starts_with nat_eq bytes magic) ≡ false = ap (λ b. not (starts_with nat_eq b magic)) spelled in
    let e : (nat_lt (length bytes) 40 || not (u64_in bytes 8 == length bytes)) ≡ false = rw length_is (grind (arith, nat_tests, long, whole)) in
    let f : nat_lt (2 ^ 26) (u32_in bytes 16) ≡ false = rw docs_are (grind (arith, docs)) in
    let g : nat_lt (2 ^ 24) (u32_in bytes 20) ≡ false = rw terms_are (grind (arith, terms)) in
    let h : nat_lt (2 ^ 29) (u64_in bytes 24) ≡ false = rw postings (grind (arith, few)) in
    let i : not (u32_in bytes 36 == 0) ≡ false = rw zero_is refl in
    let checked : read_front bytes ≡ front_of (u32_in bytes 16) (u32_in bytes 20) = judged_all (front_checks bytes) (record { docs = u32_in bytes 16; terms = u32_in bytes 20 }) (a, (b, (c, (e, (f, (g, (h, (i, tt)))))))) in
    record {
      read = checked ∙ ap (λ m. front_of m (u32_in bytes 20)) docs_are ∙ ap (front_of d) terms_are;
      postings = postings;
      greatest = greatest;
      long = long;
      stands = ap (drop 40) spelled;
    }

-- the bytes of a view in parts
view_is : (names : List (List ℕ)) (heads : List TermHeads) (terms : List TermData) (codecs : List (List Codec)) → terms_heads (length names) terms codecs ≡ heads
    → file_bytes (record { index = record { names = names; terms = terms }; codecs = codecs })
    ≡ first_bytes magic (file_length names heads) (length names) (length heads) (head_postings heads) (greatest_impact heads) (names_bytes names ++ (terms_bytes [] heads ++ terms_payloads (length names) terms codecs))
unfolding file_bytes front_bytes totals_bytes view_heads view_payloads
view_is names heads terms codecs same =
    ap (λ heads. first_bytes magic (file_length names heads) (length names) (length heads) (head_postings heads) (greatest_impact heads) ((names_bytes names ++ terms_bytes [] heads) ++ terms_payloads (length names) terms codecs)) same
    ∙ ap (first_bytes magic (file_length names heads) (length names) (length heads) (head_postings heads) (greatest_impact heads)) (append_assoc (names_bytes names) (terms_bytes [] heads) (terms_payloads (length names) terms codecs))

whole_found : Found → (bytes : List ℕ) (names : List (List ℕ)) (heads : List TermHeads) (terms : List TermData) (codecs : List (List Codec)) → All IsName names → All IsText names → length names ≤ 2 ^ 26 → length heads ≤ 2 ^ 24 → head_postings heads ≤ 2 ^ 29
    → HaveCodecs terms codecs → TermsStand (length names) None terms → terms_heads (length names) terms codecs ≡ heads → TermsRise (length names) None heads → head_codecs heads ≡ codecs → payloads_size heads ≡ length (terms_payloads (length names) terms codecs)
    → length bytes ≤ 2 ^ 32
    → bytes ≡ first_bytes magic (file_length names heads) (length names) (length heads) (head_postings heads) (greatest_impact heads) (names_bytes names ++ (terms_bytes [] heads ++ terms_payloads (length names) terms codecs))
    → read_index bytes ≡ Ok (record { index = record { names = names; terms = terms }; codecs = codecs })
unfolding read_index end_checks
whole_found found bytes names heads terms codecs are texts few_names few_terms few have stand same rise back sizes short spelled =
    let d = length names in
    let nb = names_bytes names in
    let tb = terms_bytes [] heads in
    let payloads = terms_payloads d terms codecs in
    let rest = nb ++ (tb ++ payloads) in
    let l_rest = length-append nb (tb ++ payloads) in
    let l_more = length-append tb payloads in
    let whole : file_length names heads ≡ length bytes = (let e = ap length spelled in omega (arith, e, l_rest, l_more, sizes)) in
    let front = front_found bytes rest (file_length names heads) d (length heads) (head_postings heads) (greatest_impact heads) spelled whole short few_names few_terms few (greatest_small d None heads rise) in
    let at_terms : drop (40 + length nb) bytes ≡ tb ++ payloads = behind bytes 40 nb (tb ++ payloads) front.stands in
    let terms_in = reaches bytes 40 nb (tb ++ payloads) front.stands front.long in
    let at = 40 + length nb + length tb in
    let at_payloads : drop at bytes ≡ payloads = behind bytes (40 + length nb) tb payloads at_terms in
    let payloads_in = reaches bytes (40 + length nb) tb payloads at_terms terms_in in
    let first : Front = record { docs = d; terms = length heads } in
    let x : NamesRead = record { names = names; end = 40 + length nb } in
    let y : TermsRead = record { terms = heads; end = at } in
    let z : IndexRead = record { terms = terms; end = at + length payloads } in
    let small : payloads_size heads < 2 ^ 32 = (let e = ap length spelled in omega (arith, e, l_rest, l_more, sizes, short)) in
    let names_read : read_names bytes d 40 ≡ Ok x = names_found bytes names 40 (tb ++ payloads) are texts front.long front.stands in
    let terms_read : read_terms bytes d (length heads) None (40 + length nb) ≡ Ok y = terms_found bytes d None (40 + length nb) heads payloads rise few_names small short terms_in at_terms in
    let payloads_read : read_payloads bytes d heads at ≡ Ok z = ap (λ hs. read_payloads bytes d hs at) (sym same) ∙ payloads_found found bytes d None terms codecs at [] have stand payloads_in (at_payloads ∙ sym (append-nil payloads)) in
    let a : nat_lt (at + length payloads) (length bytes) ≡ false = (let e = ap length spelled in grind (arith, e, l_rest, l_more)) in
    let b : not (u64_in bytes 24 == head_postings heads) ≡ false = rw front.postings (grind (arith, nat_tests)) in
    let c : not (u32_in bytes 32 == greatest_impact heads) ≡ false = rw front.greatest (grind (arith, nat_tests)) in
    let v : FileView = record { index = record { names = names; terms = terms }; codecs = head_codecs heads } in
    step (read_front bytes) (after_front bytes) first front.read
    ∙ step (read_names bytes d 40) (after_names bytes first) x names_read
    ∙ step (read_terms bytes d (length heads) None (40 + length nb)) (after_terms bytes first names) y terms_read
    ∙ step (read_payloads bytes d heads at) (after_payloads bytes names heads) z payloads_read
    ∙ judged_all (end_checks bytes heads (at + length payloads)) v (a, (b, (c, tt)))
    ∙ ap (λ codecs. (let r : Result FileView OpenRefusal = Ok (record { index = record { names = names; terms = terms }; codecs = codecs }) in r)) back

pub file_found : Found → (v : FileView) → IsFileView v → read_index (file_bytes v) ≡ Ok v
file_found found v is =
    let names = v.index.names in
    let terms = v.index.terms in
    let d = length names in
    let heads = terms_heads d terms v.codecs in
    let stand = index_found v.index is.index in
    let count = heads_length d terms v.codecs is.codecs in
    whole_found found (file_bytes v) names heads terms v.codecs is.index.names is.index.names_are_text is.index.few_names (subst (λ n. n ≤ 2 ^ 24) (sym count) is.index.few_terms)
    (subst (λ n. n ≤ 2 ^ 29) (sym (all_counted d terms v.codecs is.codecs)) is.postings) is.codecs stand refl (terms_rise d None terms v.codecs is.codecs stand) (all_codecs_back d terms v.codecs is.codecs) (all_sized d terms v.codecs) is.fits (view_is names heads terms v.codecs refl)

record FrontRead (bytes : List ℕ) (front : Front) : Type 0 where
  pub short : length bytes ≤ 2 ^ 32
  pub long : 40 ≤ length bytes
  pub docs : front.docs ≤ 2 ^ 26
  pub terms : front.terms ≤ 2 ^ 24
  pub postings : u64_in bytes 24 ≤ 2 ^ 29
  pub spelled : bytes ≡ first_bytes magic (length bytes) front.docs front.terms (u64_in bytes 24) (u32_in bytes 32) (drop 40 bytes)

front_only : (bytes : List ℕ) (front : Front) → Fit bytes → read_front bytes ≡ Ok front → FrontRead bytes front
unfolding read_front front_checks
front_only bytes front fits read =
    let last : Front = record { docs = u32_in bytes 16; terms = u32_in bytes 20 } in
    let x = judged_ok (front_checks bytes) last front read in
    let good = x.0 in
    let size = or_parts (nat_lt (length bytes) 40) (not (u64_in bytes 8 == length bytes)) good.1.1.1.0 in
    let long : 40 ≤ length bytes = ltb-false (length bytes) 40 size.0 in
    let known = not-false (u64_in bytes 8 == length bytes) size.1 in
    let whole : u64_in bytes 8 ≡ length bytes = grind (arith, nat_tests, known) in
    let end = not-false (u32_in bytes 36 == 0) good.1.1.1.1.1.1.1.0 in
    let zero_is : u32_in bytes 36 ≡ 0 = grind (arith, nat_tests, end) in
    let docs : u32_in bytes 16 ≡ front.docs = ap (λ (x : Front). x.docs) x.1 in
    let terms : u32_in bytes 20 ≡ front.terms = ap (λ (x : Front). x.terms) x.1 in
    let begins : magic ≡ take 8 bytes = (bytes_eq-Decides magic (take 8 bytes)).0 (not-false (starts_with nat_eq bytes magic) good.1.1.0) in
    record {
      short = ltb-false (2 ^ 32) (length bytes) good.0;
      long = long;
      docs = subst (λ n. n ≤ 2 ^ 26) docs (ltb-false (2 ^ 26) (u32_in bytes 16) good.1.1.1.1.0);
      terms = subst (λ n. n ≤ 2 ^ 24) terms (ltb-false (2 ^ 24) (u32_in bytes 20) good.1.1.1.1.1.0);
      postings = ltb-false (2 ^ 29) (u64_in bytes 24) good.1.1.1.1.1.1.0;
      spelled = sym (take-append-drop 8 bytes) ∙ ap (λ xs. xs ++ drop 8 bytes) (sym begins)
          ∙ ap (λ xs. magic ++ xs) (u64_only bytes 8 fits (omega (arith, long)) ∙ ap (λ n. u64_bytes n ++ drop 16 bytes) whole
          ∙ ap (λ xs. u64_bytes (length bytes) ++ xs) (u32_only bytes 16 fits (omega (arith, long)) ∙ ap (λ n. u32_bytes n ++ drop 20 bytes) docs
          ∙ ap (λ xs. u32_bytes front.docs ++ xs) (u32_only bytes 20 fits (omega (arith, long)) ∙ ap (λ n. u32_bytes n ++ drop 24 bytes) terms
          ∙ ap (λ xs. u32_bytes front.terms ++ xs) (u64_only bytes 24 fits (omega (arith, long))
          ∙ ap (λ xs. u64_bytes (u64_in bytes 24) ++ xs) (u32_only bytes 32 fits (omega (arith, long))
          ∙ ap (λ xs. u32_bytes (u32_in bytes 32) ++ xs) (u32_only bytes 36 fits (omega (arith, long)) ∙ ap (λ n. u32_bytes n ++ drop 40 bytes) zero_is))))));
    }

pub same_first : (mark : List ℕ) (l d n p g : ℕ) (rest : List ℕ) (l2 d2 n2 p2 g2 : ℕ) (rest2 : List ℕ) → l ≡ l2 → d ≡ d2 → n ≡ n2 → p ≡ p2 → g ≡ g2 → rest ≡ rest2 → first_bytes mark l d n p g rest ≡ first_bytes mark l2 d2 n2 p2 g2 rest2
same_first mark l d n p g rest l2 d2 n2 p2 g2 rest2 a b c e f h = rw (a, b, c, e, f, h) refl

-- the bytes of parts that were read
whole_only : (bytes : List ℕ) (front : Front) (names : List (List ℕ)) (heads : List TermHeads) (payloads : List ℕ) → FrontRead bytes front → length names ≡ front.docs → length heads ≡ front.terms → payloads_size heads ≡ length payloads
    → u64_in bytes 24 ≡ head_postings heads → u32_in bytes 32 ≡ greatest_impact heads → drop 40 bytes ≡ names_bytes names ++ (terms_bytes [] heads ++ payloads)
    → bytes ≡ first_bytes magic (file_length names heads) (length names) (length heads) (head_postings heads) (greatest_impact heads) (names_bytes names ++ (terms_bytes [] heads ++ payloads))
whole_only bytes front names heads payloads first docs terms sizes postings greatest rest =
    let nb = names_bytes names in
    let tb = terms_bytes [] heads in
    let e = ap length first.spelled in
    let f = ap length rest in
    let g = length-append nb (tb ++ payloads) in
    let h = length-append tb payloads in
    let whole : length bytes ≡ file_length names heads = omega (arith, e, f, g, h, sizes) in
    first.spelled ∙ same_first magic (length bytes) front.docs front.terms (u64_in bytes 24) (u32_in bytes 32) (drop 40 bytes) (file_length names heads) (length names) (length heads) (head_postings heads) (greatest_impact heads) (nb ++ (tb ++ payloads))
    whole (sym docs) (sym terms) postings greatest rest

-- the view that was read
view_only : (bytes : List ℕ) (front : Front) (x : NamesRead) (y : TermsRead) (z : IndexRead) → FrontRead bytes front → NamesAre bytes 40 front.docs x → TermsAre bytes front.docs None x.end front.terms y → PayloadsAre bytes (length x.names) None y.terms y.end z
    → length bytes ≤ z.end → u64_in bytes 24 ≡ head_postings y.terms → u32_in bytes 32 ≡ greatest_impact y.terms
    → (let v : FileView = record { index = record { names = x.names; terms = z.terms }; codecs = head_codecs y.terms } in (bytes ≡ file_bytes v) × IsFileView v)
view_only bytes front x y z first names terms there end postings greatest =
    let d = length x.names in
    let codecs = head_codecs y.terms in
    let payloads = terms_payloads d z.terms codecs in
    let nothing : drop z.end bytes ≡ [] = drop_all z.end bytes end in
    let last : drop y.end bytes ≡ payloads = there.stand ∙ ap (λ xs. payloads ++ xs) nothing ∙ append-nil payloads in
    let rest : drop 40 bytes ≡ names_bytes x.names ++ (terms_bytes [] y.terms ++ payloads) = names.stand ∙ ap (λ xs. names_bytes x.names ++ xs) (terms.stand ∙ ap (λ xs. terms_bytes [] y.terms ++ xs) last) in
    let sizes : payloads_size y.terms ≡ length payloads = ap payloads_size (sym there.same) ∙ all_sized d z.terms codecs in
    let spelled = whole_only bytes front x.names y.terms payloads first names.count terms.count sizes postings greatest rest ∙ sym (view_is x.names y.terms z.terms codecs there.same) in
    let facts = index_only d z.terms there.terms_stand in
    let counted : index_postings (record { names = x.names; terms = z.terms }) ≡ u64_in bytes 24 = sym (all_counted d z.terms codecs there.have) ∙ ap head_postings there.same ∙ sym postings in (
      spelled,
      record {
        index = record {
          few_names = subst (λ n. n ≤ 2 ^ 26) (sym names.count) first.docs;
          names = names.are;
          names_are_text = names.texts;
          few_terms = subst (λ n. n ≤ 2 ^ 24) (sym (there.count ∙ terms.count)) first.terms;
          rising = facts.1;
          terms = facts.0;
        };
        codecs = there.have;
        postings = subst (λ n. n ≤ 2 ^ 29) (sym counted) first.postings;
        fits = subst (λ (xs : List ℕ). length xs ≤ 2 ^ 32) spelled first.short;
      },
    )

pub file_only : Only → Numbered → (v : FileView) (bytes : List ℕ) → Fit bytes → read_index bytes ≡ Ok v → (bytes ≡ file_bytes v) × IsFileView v
unfolding read_index end_checks
file_only only numbered v bytes fits read =
    let a = bind_ok (read_front bytes) (after_front bytes) v read in
    let front = a.0 in
    let first = front_only bytes front fits a.1 in
    let b = bind_ok (read_names bytes front.docs 40) (after_names bytes front) v a.2 in
    let x = b.0 in
    let names = names_only bytes front.docs 40 x fits first.long b.1 in
    let e = bind_ok (read_terms bytes front.docs front.terms None x.end) (after_terms bytes front x.names) v b.2 in
    let y = e.0 in
    let terms = terms_only numbered bytes front.docs front.terms None x.end y fits names.within e.1 in
    let f = bind_ok (read_payloads bytes front.docs y.terms y.end) (after_payloads bytes x.names y.terms) v e.2 in
    let z = f.0 in
    let payloads = payloads_only only bytes front.docs None y.terms y.end z fits first.docs terms.rise terms.within f.1 in
    let w : FileView = record { index = record { names = x.names; terms = z.terms }; codecs = head_codecs y.terms } in
    let g = judged_ok (end_checks bytes y.terms z.end) w v f.2 in
    let there : PayloadsAre bytes (length x.names) None y.terms y.end z = subst (λ d. PayloadsAre bytes d None y.terms y.end z) (sym names.count) payloads in
    let t = not-false (u64_in bytes 24 == head_postings y.terms) g.0.1.0 in
    let u = not-false (u32_in bytes 32 == greatest_impact y.terms) g.0.1.1.0 in
    subst (λ (v : FileView). (bytes ≡ file_bytes v) × IsFileView v) {x = w} g.1
    (view_only bytes front x y z first names terms there (ltb-false z.end (length bytes) g.0.0) (eqb-true (u64_in bytes 24) (head_postings y.terms) t) (eqb-true (u32_in bytes 32) (greatest_impact y.terms) u))

-- how long a file is
pub size_is : (v : FileView) → length (file_bytes v) ≡ file_length v.index.names (view_heads v)
unfolding view_heads
size_is v =
    let d = length v.index.names in
    let heads = terms_heads d v.index.terms v.codecs in
    let payloads = terms_payloads d v.index.terms v.codecs in
    let e = ap length (view_is v.index.names heads v.index.terms v.codecs refl) in
    let f = length-append (names_bytes v.index.names) (terms_bytes [] heads ++ payloads) in
    let g = length-append (terms_bytes [] heads) payloads in
    let sizes = all_sized d v.index.terms v.codecs in
    omega (arith, e, f, g, sizes)

have_chosen : (d : ℕ) (terms : List TermData) → HaveCodecs terms (chosen_codecs d terms)
have_chosen d [] = refl
have_chosen d (t ∷ terms) =
    ap (λ n. n ∷ map (λ (here : List Codec). length here) (chosen_codecs d terms)) (length-map t.segments (λ (s : SegmentData). chosen_codec d s.docs)) ∙ ap (λ ns. length t.segments ∷ ns) (have_chosen d terms)

pub text_is : (index : IndexData) → IsIndex index → index_postings index ≤ 2 ^ 29 → length (index_text index) ≤ 2 ^ 32 → IsFileView (chosen_view index)
unfolding index_text
text_is index is few short = record { index = is; codecs = have_chosen (length index.names) index.terms; postings = few; fits = short }

pub one_view : (v w : FileView) → read_index (file_bytes v) ≡ Ok v → read_index (file_bytes w) ≡ Ok w → file_bytes v ≡ file_bytes w → v ≡ w
one_view v w first second same = ok_same v w (sym first ∙ ap read_index same ∙ second)
