-- Files of version 1 are read as they are written.
use Rattle.shared_lemmas.proofs.Common.{◌≡◌, ℕ, ◌+◌, ◌<◌, ◌≤◌, ◌^◌, ◌==◌, ◌||◌, not, false, nat_lt, nat_eq, List, [], ◌++◌, length, take, drop, All, None, Result, Ok, ap, sym, subst, ◌∙◌, refl, arith, starts_with, nat_tests, length-append, drop_all, take-append-drop, bytes_eq-Decides, or_parts}
use Rattle.shared_lemmas.proofs.Common.{not-false}
use borrow.Author.Tests.{ltb-false, eqb-true}
use Rattle.std.proofs.lemmas.List.{append_assoc, append-nil}
use Rattle.index_version1.proofs.Below.{IsName, IsText, Codec, TermData, u32_in, u64_in, u32_bytes, u64_bytes, TermHeads, terms_heads, head_postings, payloads_size, greatest_impact, old_magic, terms_payloads, FileView, HaveCodecs, index_postings, OpenRefusal, Front, NamesRead, TermsRead, IndexRead}
use Rattle.index_version1.proofs.Below.{read_payloads, head_codecs, after_payloads, after_terms, bind_ok, judged_ok, judged_all, behind, reaches, Fit, u32_found, u64_found, u32_only, u64_only, TermsRise, TermsStand, index_found, index_only, PayloadsAre, terms_rise, payloads_found, payloads_only}
use Rattle.index_version1.proofs.Below.{all_codecs_back, all_counted, all_sized, greatest_small, heads_length, Found, Only, Numbered, step, first_bytes, front_of, same_first}
use Rattle.index_layout.specs.View.{view_heads, view_payloads}
use Rattle.index_layout.specs.Reading.{end_checks}
use Rattle.index_version1.specs.Files.{IsShort, IsFile1View, file1_bytes}
use Rattle.index_version1.specs.Layout.{offsets_bytes, joined, terms1_bytes, file1_length, totals1_bytes, front1_bytes}
use Rattle.index_version1.specs.Reading.{front1_checks, read_front1, read_names1, read_terms1, after_names1, after_front1, read_file1}
use Rattle.index_version1.proofs.OffsetLaws.{Names1Are, names1_found, names1_only}
use Rattle.index_version1.proofs.OldTerms.{Terms1Are, terms1_found, terms1_only}

record FrontThere (bytes rest : List ℕ) (d n p g : ℕ) : Type 0 where
  pub read : read_front1 bytes ≡ Ok (record { docs = d; terms = n })
  pub postings : u64_in bytes 24 ≡ p
  pub greatest : u32_in bytes 32 ≡ g
  pub long : 40 ≤ length bytes
  pub stands : drop 40 bytes ≡ rest

front_found : (bytes rest : List ℕ) (l d n p g : ℕ) → bytes ≡ first_bytes old_magic l d n p g rest → l ≡ length bytes → length bytes ≤ 2 ^ 32 → d ≤ 2 ^ 26 → n ≤ 2 ^ 24 → p ≤ 2 ^ 29 → g ≤ 65536 → FrontThere bytes rest d n p g
unfolding read_front1 front1_checks
front_found bytes rest l d n p g spelled whole short docs terms few small =
    let tail = u32_bytes 0 ++ rest in
    let length_is : u64_in bytes 8 ≡ l = u64_found bytes 8 l (u32_bytes d ++ (u32_bytes n ++ (u64_bytes p ++ (u32_bytes g ++ tail)))) (omega (arith, whole, short)) (ap (drop 8) spelled) in
    let docs_are : u32_in bytes 16 ≡ d = u32_found bytes 16 d (u32_bytes n ++ (u64_bytes p ++ (u32_bytes g ++ tail))) (omega (arith, docs)) (ap (drop 16) spelled) in
    let terms_are : u32_in bytes 20 ≡ n = u32_found bytes 20 n (u64_bytes p ++ (u32_bytes g ++ tail)) (omega (arith, terms)) (ap (drop 20) spelled) in
    let postings : u64_in bytes 24 ≡ p = u64_found bytes 24 p (u32_bytes g ++ tail) (omega (arith, few)) (ap (drop 24) spelled) in
    let greatest : u32_in bytes 32 ≡ g = u32_found bytes 32 g tail (omega (arith, small)) (ap (drop 32) spelled) in
    let zero_is : u32_in bytes 36 ≡ 0 = u32_found bytes 36 0 rest (omega arith) (ap (drop 36) spelled) in
    let long : 40 ≤ length bytes = (let e = ap length spelled in omega (arith, e)) in
    let a : nat_lt (2 ^ 32) (length bytes) ≡ false = grind (arith) in
    let c : not (starts_with nat_eq bytes old_magic) ≡ false = ap (λ b. not (starts_with nat_eq b old_magic)) spelled in
    let e : (nat_lt (length bytes) 40 || not (u64_in bytes 8 == length bytes)) ≡ false = rw length_is (grind (arith, nat_tests, long, whole)) in
    let f : nat_lt (2 ^ 26) (u32_in bytes 16) ≡ false = rw docs_are (grind (arith, docs)) in
    let g : nat_lt (2 ^ 24) (u32_in bytes 20) ≡ false = rw terms_are (grind (arith, terms)) in
    let h : nat_lt (2 ^ 29) (u64_in bytes 24) ≡ false = rw postings (grind (arith, few)) in
    let i : not (u32_in bytes 36 == 0) ≡ false = rw zero_is refl in
    let checked : read_front1 bytes ≡ front_of (u32_in bytes 16) (u32_in bytes 20) = judged_all (front1_checks bytes) (record { docs = u32_in bytes 16; terms = u32_in bytes 20 }) (a, (c, (e, (f, (g, (h, (i, tt))))))) in
    record {
      read = checked ∙ ap (λ m. front_of m (u32_in bytes 20)) docs_are ∙ ap (front_of d) terms_are;
      postings = postings;
      greatest = greatest;
      long = long;
      stands = ap (drop 40) spelled;
    }

-- the bytes of a view in parts
view_is : (names : List (List ℕ)) (heads : List TermHeads) (terms : List TermData) (codecs : List (List Codec)) → terms_heads (length names) terms codecs ≡ heads
    → file1_bytes (record { index = record { names = names; terms = terms }; codecs = codecs })
    ≡ first_bytes old_magic (file1_length names heads) (length names) (length heads) (head_postings heads) (greatest_impact heads) (offsets_bytes names ++ (joined names ++ (terms1_bytes heads ++ terms_payloads (length names) terms codecs)))
unfolding file1_bytes front1_bytes totals1_bytes view_heads view_payloads
view_is names heads terms codecs same =
    let last = terms_payloads (length names) terms codecs in
    let first = first_bytes old_magic (file1_length names heads) (length names) (length heads) (head_postings heads) (greatest_impact heads) in
    ap (λ heads. first_bytes old_magic (file1_length names heads) (length names) (length heads) (head_postings heads) (greatest_impact heads) ((offsets_bytes names ++ (joined names ++ terms1_bytes heads)) ++ last)) same
    ∙ ap first (append_assoc (offsets_bytes names) (joined names ++ terms1_bytes heads) last ∙ ap (λ xs. offsets_bytes names ++ xs) (append_assoc (joined names) (terms1_bytes heads) last))

whole_found : Found → (bytes : List ℕ) (names : List (List ℕ)) (heads : List TermHeads) (terms : List TermData) (codecs : List (List Codec)) → All IsName names → All IsText names → All IsShort names → length names ≤ 2 ^ 26 → length heads ≤ 2 ^ 24 → head_postings heads ≤ 2 ^ 29
    → HaveCodecs terms codecs → TermsStand (length names) None terms → terms_heads (length names) terms codecs ≡ heads → TermsRise (length names) None heads → head_codecs heads ≡ codecs → payloads_size heads ≡ length (terms_payloads (length names) terms codecs)
    → length bytes ≤ 2 ^ 32
    → bytes ≡ first_bytes old_magic (file1_length names heads) (length names) (length heads) (head_postings heads) (greatest_impact heads) (offsets_bytes names ++ (joined names ++ (terms1_bytes heads ++ terms_payloads (length names) terms codecs)))
    → read_file1 bytes ≡ Ok (record { index = record { names = names; terms = terms }; codecs = codecs })
unfolding read_file1 end_checks
whole_found found bytes names heads terms codecs are texts lengths few_names few_terms few have stand same rise back sizes short spelled =
    let d = length names in
    let ob = offsets_bytes names in
    let nb = joined names in
    let tb = terms1_bytes heads in
    let payloads = terms_payloads d terms codecs in
    let rest = ob ++ (nb ++ (tb ++ payloads)) in
    let l_rest = length-append ob (nb ++ (tb ++ payloads)) in
    let l_more = length-append nb (tb ++ payloads) in
    let l_last = length-append tb payloads in
    let whole : file1_length names heads ≡ length bytes = (let e = ap length spelled in omega (arith, e, l_rest, l_more, l_last, sizes)) in
    let front = front_found bytes rest (file1_length names heads) d (length heads) (head_postings heads) (greatest_impact heads) spelled whole short few_names few_terms few (greatest_small d None heads rise) in
    let at_names : drop (40 + length ob) bytes ≡ nb ++ (tb ++ payloads) = behind bytes 40 ob (nb ++ (tb ++ payloads)) front.stands in
    let names_in = reaches bytes 40 ob (nb ++ (tb ++ payloads)) front.stands front.long in
    let place = 40 + length ob + length nb in
    let at_terms : drop place bytes ≡ tb ++ payloads = behind bytes (40 + length ob) nb (tb ++ payloads) at_names in
    let terms_in = reaches bytes (40 + length ob) nb (tb ++ payloads) at_names names_in in
    let at = place + length tb in
    let at_payloads : drop at bytes ≡ payloads = behind bytes place tb payloads at_terms in
    let payloads_in = reaches bytes place tb payloads at_terms terms_in in
    let first : Front = record { docs = d; terms = length heads } in
    let x : NamesRead = record { names = names; end = place } in
    let y : TermsRead = record { terms = heads; end = at } in
    let z : IndexRead = record { terms = terms; end = at + length payloads } in
    let small : payloads_size heads < 2 ^ 32 = (let e = ap length spelled in omega (arith, e, l_rest, l_more, l_last, sizes, short)) in
    let names_read : read_names1 bytes d ≡ Ok x = names1_found bytes names (tb ++ payloads) are texts lengths front.long short front.stands in
    let terms_read : read_terms1 bytes d (length heads) None place ≡ Ok y = terms1_found bytes d None place heads payloads rise few_names small short terms_in at_terms in
    let payloads_read : read_payloads bytes d heads at ≡ Ok z = ap (λ hs. read_payloads bytes d hs at) (sym same) ∙ payloads_found found bytes d None terms codecs at [] have stand payloads_in (at_payloads ∙ sym (append-nil payloads)) in
    let a : nat_lt (at + length payloads) (length bytes) ≡ false = (let e = ap length spelled in grind (arith, e, l_rest, l_more, l_last)) in
    let b : not (u64_in bytes 24 == head_postings heads) ≡ false = rw front.postings (grind (arith, nat_tests)) in
    let c : not (u32_in bytes 32 == greatest_impact heads) ≡ false = rw front.greatest (grind (arith, nat_tests)) in
    let v : FileView = record { index = record { names = names; terms = terms }; codecs = head_codecs heads } in
    step (read_front1 bytes) (after_front1 bytes) first front.read
    ∙ step (read_names1 bytes d) (after_names1 bytes first) x names_read
    ∙ step (read_terms1 bytes d (length heads) None place) (after_terms bytes first names) y terms_read
    ∙ step (read_payloads bytes d heads at) (after_payloads bytes names heads) z payloads_read
    ∙ judged_all (end_checks bytes heads (at + length payloads)) v (a, (b, (c, tt)))
    ∙ ap (λ codecs. (let r : Result FileView OpenRefusal = Ok (record { index = record { names = names; terms = terms }; codecs = codecs }) in r)) back

pub file1_found : Found → (v : FileView) → IsFile1View v → read_file1 (file1_bytes v) ≡ Ok v
file1_found found v is =
    let names = v.index.names in
    let terms = v.index.terms in
    let d = length names in
    let heads = terms_heads d terms v.codecs in
    let stand = index_found v.index is.index in
    let count = heads_length d terms v.codecs is.codecs in
    whole_found found (file1_bytes v) names heads terms v.codecs is.index.names is.index.names_are_text is.short is.index.few_names (subst (λ n. n ≤ 2 ^ 24) (sym count) is.index.few_terms)
    (subst (λ n. n ≤ 2 ^ 29) (sym (all_counted d terms v.codecs is.codecs)) is.postings) is.codecs stand refl (terms_rise d None terms v.codecs is.codecs stand) (all_codecs_back d terms v.codecs is.codecs) (all_sized d terms v.codecs) is.fits (view_is names heads terms v.codecs refl)

record FrontRead (bytes : List ℕ) (front : Front) : Type 0 where
  pub short : length bytes ≤ 2 ^ 32
  pub long : 40 ≤ length bytes
  pub docs : front.docs ≤ 2 ^ 26
  pub terms : front.terms ≤ 2 ^ 24
  pub postings : u64_in bytes 24 ≤ 2 ^ 29
  pub spelled : bytes ≡ first_bytes old_magic (length bytes) front.docs front.terms (u64_in bytes 24) (u32_in bytes 32) (drop 40 bytes)

front_only : (bytes : List ℕ) (front : Front) → Fit bytes → read_front1 bytes ≡ Ok front → FrontRead bytes front
unfolding read_front1 front1_checks
front_only bytes front fits read =
    let last : Front = record { docs = u32_in bytes 16; terms = u32_in bytes 20 } in
    let x = judged_ok (front1_checks bytes) last front read in
    let good = x.0 in
    let size = or_parts (nat_lt (length bytes) 40) (not (u64_in bytes 8 == length bytes)) good.1.1.0 in
    let long : 40 ≤ length bytes = ltb-false (length bytes) 40 size.0 in
    let known = not-false (u64_in bytes 8 == length bytes) size.1 in
    let whole : u64_in bytes 8 ≡ length bytes = grind (arith, nat_tests, known) in
    let end = not-false (u32_in bytes 36 == 0) good.1.1.1.1.1.1.0 in
    let zero_is : u32_in bytes 36 ≡ 0 = grind (arith, nat_tests, end) in
    let docs : u32_in bytes 16 ≡ front.docs = ap (λ (x : Front). x.docs) x.1 in
    let terms : u32_in bytes 20 ≡ front.terms = ap (λ (x : Front). x.terms) x.1 in
    let begins : old_magic ≡ take 8 bytes = (bytes_eq-Decides old_magic (take 8 bytes)).0 (not-false (starts_with nat_eq bytes old_magic) good.1.0) in
    record {
      short = ltb-false (2 ^ 32) (length bytes) good.0;
      long = long;
      docs = subst (λ n. n ≤ 2 ^ 26) docs (ltb-false (2 ^ 26) (u32_in bytes 16) good.1.1.1.0);
      terms = subst (λ n. n ≤ 2 ^ 24) terms (ltb-false (2 ^ 24) (u32_in bytes 20) good.1.1.1.1.0);
      postings = ltb-false (2 ^ 29) (u64_in bytes 24) good.1.1.1.1.1.0;
      spelled = sym (take-append-drop 8 bytes) ∙ ap (λ xs. xs ++ drop 8 bytes) (sym begins)
          ∙ ap (λ xs. old_magic ++ xs) (u64_only bytes 8 fits (omega (arith, long)) ∙ ap (λ n. u64_bytes n ++ drop 16 bytes) whole
          ∙ ap (λ xs. u64_bytes (length bytes) ++ xs) (u32_only bytes 16 fits (omega (arith, long)) ∙ ap (λ n. u32_bytes n ++ drop 20 bytes) docs
          ∙ ap (λ xs. u32_bytes front.docs ++ xs) (u32_only bytes 20 fits (omega (arith, long)) ∙ ap (λ n. u32_bytes n ++ drop 24 bytes) terms
          ∙ ap (λ xs. u32_bytes front.terms ++ xs) (u64_only bytes 24 fits (omega (arith, long))
          ∙ ap (λ xs. u64_bytes (u64_in bytes 24) ++ xs) (u32_only bytes 32 fits (omega (arith, long))
          ∙ ap (λ xs. u32_bytes (u32_in bytes 32) ++ xs) (u32_only bytes 36 fits (omega (arith, long)) ∙ ap (λ n. u32_bytes n ++ drop 40 bytes) zero_is))))));
    }

-- the bytes of parts that were read
whole_only : (bytes : List ℕ) (front : Front) (names : List (List ℕ)) (heads : List TermHeads) (payloads : List ℕ) → FrontRead bytes front → length names ≡ front.docs → length heads ≡ front.terms → payloads_size heads ≡ length payloads
    → u64_in bytes 24 ≡ head_postings heads → u32_in bytes 32 ≡ greatest_impact heads → drop 40 bytes ≡ offsets_bytes names ++ (joined names ++ (terms1_bytes heads ++ payloads))
    → bytes ≡ first_bytes old_magic (file1_length names heads) (length names) (length heads) (head_postings heads) (greatest_impact heads) (offsets_bytes names ++ (joined names ++ (terms1_bytes heads ++ payloads)))
whole_only bytes front names heads payloads first docs terms sizes postings greatest rest =
    let ob = offsets_bytes names in
    let nb = joined names in
    let tb = terms1_bytes heads in
    let e = ap length first.spelled in
    let f = ap length rest in
    let g = length-append ob (nb ++ (tb ++ payloads)) in
    let h = length-append nb (tb ++ payloads) in
    let i = length-append tb payloads in
    let whole : length bytes ≡ file1_length names heads = omega (arith, e, f, g, h, i, sizes) in
    first.spelled ∙ same_first old_magic (length bytes) front.docs front.terms (u64_in bytes 24) (u32_in bytes 32) (drop 40 bytes) (file1_length names heads) (length names) (length heads) (head_postings heads) (greatest_impact heads) (ob ++ (nb ++ (tb ++ payloads)))
    whole (sym docs) (sym terms) postings greatest rest

-- the view that was read
view_only : (bytes : List ℕ) (front : Front) (x : NamesRead) (y : TermsRead) (z : IndexRead) → FrontRead bytes front → Names1Are bytes front.docs x → Terms1Are bytes front.docs None x.end front.terms y → PayloadsAre bytes (length x.names) None y.terms y.end z
    → length bytes ≤ z.end → u64_in bytes 24 ≡ head_postings y.terms → u32_in bytes 32 ≡ greatest_impact y.terms
    → (let v : FileView = record { index = record { names = x.names; terms = z.terms }; codecs = head_codecs y.terms } in (bytes ≡ file1_bytes v) × IsFile1View v)
view_only bytes front x y z first names terms there end postings greatest =
    let d = length x.names in
    let codecs = head_codecs y.terms in
    let payloads = terms_payloads d z.terms codecs in
    let nothing : drop z.end bytes ≡ [] = drop_all z.end bytes end in
    let last : drop y.end bytes ≡ payloads = there.stand ∙ ap (λ xs. payloads ++ xs) nothing ∙ append-nil payloads in
    let rest : drop 40 bytes ≡ offsets_bytes x.names ++ (joined x.names ++ (terms1_bytes y.terms ++ payloads)) = names.stand ∙ ap (λ xs. offsets_bytes x.names ++ (joined x.names ++ xs)) (terms.stand ∙ ap (λ xs. terms1_bytes y.terms ++ xs) last) in
    let sizes : payloads_size y.terms ≡ length payloads = ap payloads_size (sym there.same) ∙ all_sized d z.terms codecs in
    let spelled = whole_only bytes front x.names y.terms payloads first names.count terms.count sizes postings greatest rest ∙ sym (view_is x.names y.terms z.terms codecs there.same) in
    let facts = index_only d z.terms there.terms_stand in
    let counted : index_postings (record { names = x.names; terms = z.terms }) ≡ u64_in bytes 24 = sym (all_counted d z.terms codecs there.have) ∙ ap head_postings there.same ∙ sym postings in (
      spelled,
      record {
        index = record {
          few_names = subst (λ n. n ≤ 2 ^ 26) (sym names.count) first.docs;
          names = names.are;
          names_are_text = names.texts;
          few_terms = subst (λ n. n ≤ 2 ^ 24) (sym (there.count ∙ terms.count)) first.terms;
          rising = facts.1;
          terms = facts.0;
        };
        short = names.short;
        codecs = there.have;
        postings = subst (λ n. n ≤ 2 ^ 29) (sym counted) first.postings;
        fits = subst (λ (xs : List ℕ). length xs ≤ 2 ^ 32) spelled first.short;
      },
    )

pub file1_only : Only → Numbered → (v : FileView) (bytes : List ℕ) → Fit bytes → read_file1 bytes ≡ Ok v → (bytes ≡ file1_bytes v) × IsFile1View v
unfolding read_file1 end_checks
file1_only only numbered v bytes fits read =
    let a = bind_ok (read_front1 bytes) (after_front1 bytes) v read in
    let front = a.0 in
    let first = front_only bytes front fits a.1 in
    let b = bind_ok (read_names1 bytes front.docs) (after_names1 bytes front) v a.2 in
    let x = b.0 in
    let names = names1_only bytes front.docs x fits b.1 in
    let e = bind_ok (read_terms1 bytes front.docs front.terms None x.end) (after_terms bytes front x.names) v b.2 in
    let y = e.0 in
    let terms = terms1_only numbered bytes front.docs front.terms None x.end y fits names.within e.1 in
    let f = bind_ok (read_payloads bytes front.docs y.terms y.end) (after_payloads bytes x.names y.terms) v e.2 in
    let z = f.0 in
    let payloads = payloads_only only bytes front.docs None y.terms y.end z fits first.docs terms.rise terms.within f.1 in
    let w : FileView = record { index = record { names = x.names; terms = z.terms }; codecs = head_codecs y.terms } in
    let g = judged_ok (end_checks bytes y.terms z.end) w v f.2 in
    let there : PayloadsAre bytes (length x.names) None y.terms y.end z = subst (λ d. PayloadsAre bytes d None y.terms y.end z) (sym names.count) payloads in
    let t = not-false (u64_in bytes 24 == head_postings y.terms) g.0.1.0 in
    let u = not-false (u32_in bytes 32 == greatest_impact y.terms) g.0.1.1.0 in
    subst (λ (v : FileView). (bytes ≡ file1_bytes v) × IsFile1View v) {x = w} g.1
    (view_only bytes front x y z first names terms there (ltb-false z.end (length bytes) g.0.0) (eqb-true (u64_in bytes 24) (head_postings y.terms) t) (eqb-true (u32_in bytes 32) (greatest_impact y.terms) u))
