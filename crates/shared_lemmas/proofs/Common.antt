-- The standard library's names that many proofs cite, passed on from one place. Declares nothing.
pub use Rattle.std.proofs.Common.{All, AllPairs, Bool, Bor, Contains, Decides, Err, Fits, IfErr, IfOk, IfSome, IsAscii, IsErr, IsNone, IsOk, IsPermutation, IsSome, IsSomeAnd, IsSorted, IsSortedBy, IsTrue, List, None, Ok, OnErr, Option}
pub use Rattle.std.proofs.Common.{Result, Some, String, Vec, [], add-one, add-zero, ap, append-nil, append_assoc, ap₂, arith, bit_and, bit_or, bytes_eq, codes, cond, count_by, count_ones, decimal, drop, drop-cons, eq-eqb, eqb, eqb-true}
pub use Rattle.std.proofs.Common.{false, filter, fold, get_or, get_or-set_other, get_or-set_same, if◌then◌else◌, inl, inr, is_none, is_some, leb, length, length-set, lit<, ltb, map, max, min, nat_eq, nat_le, nat_lt, not, position, pow_mono}
pub use Rattle.std.proofs.Common.{refl, replicate, reverse, rules, set, set-set, slice_get, slice_index, slice_index_or, slice_range, slice_set, string_eq, subst, suc, sum, sum_by, sym, take, tests, true, true≢false, w32, w8, zero}
pub use Rattle.std.proofs.Common.{zero-add, ℕ, ⊎_elim, ◌%◌, ◌&&◌, ◌*◌, ◌++◌, ◌+◌, ◌-◌, ◌/◌, ◌<◌, ◌==◌, ◌^◌, ◌||◌, ◌↔◌, ◌∙◌, ◌∷◌, ◌≡◌, ◌≢◌, ◌≤◌, ◌⊎◌}
pub use Rattle.std.proofs.KnownBytes.{Consumes-kept, Consumes-nil, Consumes-trans}
pub use Rattle.std.proofs.Math.Bool.{and-false, and-true, or-false, or-true}
pub use Rattle.std.proofs.Math.ListN.{drop_of_length-le, get_or-append}
pub use Rattle.std.proofs.Math.Nat.{add-mul-div_left, add-mul-mod_self_left, div-eq_of_lt, div-le_of_le-mul, div-le_self, div-lt_iff_lt-mul, div-mul-le_self, div-one, le_antisymm, le_of_mul-le-mul_right, le_trans, min-eq_left, min-le_right}
pub use Rattle.std.proofs.Math.Nat.{mod-add-div, mod-eq_of_lt, mod-lt, mod-one, mul-add, mul-le-mul, mul-le-mul_left, mul-le-mul_right, mul-suc, mul_assoc, pow-le-pow_right, pow-suc, pow-succ', pow-zero, suc-mul}
pub use Rattle.std.proofs.Math.Numerals.{suc-eq-add-one}
pub use Rattle.std.proofs.Math.Path.{fun_ext}
pub use Rattle.std.proofs.Math.Seq.{drop-append_seam, drop-length, get_or-append_seam, map-set_same, paste, take-add, take-append-add, take-append_seam, take-length, take-set-lt, take-suc}
pub use Rattle.std.proofs.lemmas.Bool.{and_cases, and_parts, cases_Bool, cases_eq, cases_lt, cond-false, cond-true, eqb-false, false_from_ne_true, le-leb, le-ltb, leb-false, leb-true, lt-leb, lt-ltb, ltb-false, ltb-true, ne_eqb, not-false}
pub use Rattle.std.proofs.lemmas.Bool.{or_from, or_parts}
pub use Rattle.std.proofs.lemmas.Bool.Decides.{Decides-eqb, Decides-like, eqb_tells, nat_tests, not_from_Decides, same_from_decides}
pub use Rattle.std.proofs.lemmas.Cmp.{back_total, eq_by_cmp_equiv, nat_cmp_total, nat_eq_equiv, nat_list_cmp_total, nat_list_eq_equiv, on_total, then_total, tied_itself}
pub use Rattle.std.proofs.lemmas.Fmt.{decimal_by_steps, decimal_digit, decimal_injective, length-decimal-le}
pub use Rattle.std.proofs.lemmas.Grind.{flat_map-append, get_or_default_zero, pow_more, replicate_next, reverse_onto, same_number_lists}
pub use Rattle.std.proofs.lemmas.Iterator.{YieldsList-from_chars, YieldsList-from_slice, items_from_collect, text_from_collect}
pub use Rattle.std.proofs.lemmas.Iterator.Adapters.{YieldsList-from_vec}
pub use Rattle.std.proofs.lemmas.Iterator.Consumers.{YieldsList-end}
pub use Rattle.std.proofs.lemmas.Iterator.Search.{position_from_yields_List}
pub use Rattle.std.proofs.lemmas.List.{append_cancel_left, drop-append-le, drop-drop, drop-map, drop-replicate, drop-set-lt, drop-take, drop_all, drop_at, drop_more, ext_get_or, get_or-append-add, get_or-append_right, get_or-drop}
pub use Rattle.std.proofs.lemmas.List.{get_or-map, get_or-replicate, get_or-reverse, get_or-take, get_or_append_left, get_or_at, get_or_default, get_or_past, get_or_read, length-append, length-drop, length-map, length-replicate}
pub use Rattle.std.proofs.lemmas.List.{length-reverse, length-take, length-take-le, length_push, map-append, map-id, map-set, map_more, map_push, nil_from_length, replicate-append-replicate, replicate_more, set-get_or, take-append-drop}
pub use Rattle.std.proofs.lemmas.List.{take-append-le, take-map, take-replicate, take-take, take_all, take_at, take_min, take_more, take_more_set, take_rest, with_items_is}
pub use Rattle.std.proofs.lemmas.List.Concat.{flat_map-cons, length-flat_map}
pub use Rattle.std.proofs.lemmas.List.Edits.{length-paste, take-paste}
pub use Rattle.std.proofs.lemmas.List.Elements.{All-append, All-cons, All-contains, All-contains_itself, All-drop, All-filter, All-from_get_or, All-from_recursion, All-get_or, All-head, All-map, All-more, All-nil, All-push, All-set}
pub use Rattle.std.proofs.lemmas.List.Elements.{All-tail, All-take, All-weaker, Contains-append_cases, Contains-append_left, Contains-append_right, Contains-push, filter-append, filter_map-append, recursion_from_All}
pub use Rattle.std.proofs.lemmas.List.Filters.{FiltersInPlace, FiltersInPlace-more_no, FiltersInPlace-more_set, length-filter_both, sum_by-filter_both}
pub use Rattle.std.proofs.lemmas.List.Folds.{Any-from_list_any, flat_map-map, list_all-append, list_all_more, list_any-append, list_any-from_Any, list_any_at, list_any_none, sum_by-replicate}
pub use Rattle.std.proofs.lemmas.List.FromFn.{fill_by_all, get_or-map-range_with_len, get_or-range_with_len, length-map-range_with_len, length-range_with_len, map-range_with_len_more}
pub use Rattle.std.proofs.lemmas.List.Kept.{AllPairs-cons, AllPairs-filter, AllPairs-from_increasing, IsStrictlyIncreasing-filter}
pub use Rattle.std.proofs.lemmas.List.Quantifiers.{all_pairs_push, position-Some}
pub use Rattle.std.proofs.lemmas.List.Sorted.{All-permutation, Contains-permutation, IsNonDecreasingBy-from_sort_by, IsPermutation-append, IsPermutation-append_comm, IsPermutation-append_left, IsPermutation-append_right, IsPermutation-cons}
pub use Rattle.std.proofs.lemmas.List.Sorted.{IsPermutation-map, IsPermutation-middle, IsPermutation-refl, IsPermutation-reverse, IsPermutation-sym, IsPermutation-trans, answers_always, length_permutation, ranks_by, sorted_far}
pub use Rattle.std.proofs.lemmas.List.Sorted.{sum_by-IsPermutation}
pub use Rattle.std.proofs.lemmas.List.Splits.{join_with_byte-slice_split, length-slice_split, slice_split-cons_no, slice_split-cons_yes, slice_split_at, slice_split_first, slice_split_none}
pub use Rattle.std.proofs.lemmas.List.Sums.{AllPass-from_list_all, common_prefix_len-le, count_by-le-length, count_by_more_no, count_by_more_yes, fails_before_first, fold-append, fold_more, get_or-le-sum_by, length-filter}
pub use Rattle.std.proofs.lemmas.List.Sums.{list_all-from_AllPass, position_or_len_is, prefix_len_is, prefix_len_passes, sum_by-append, sum_by-cons, sum_by-le, sum_by-le-sum_by, sum_by-set, sum_by-take-drop, sum_by-take-le, sum_by_more}
pub use Rattle.std.proofs.lemmas.List.Sums.{sum_by_more_le, sum_by_push}
pub use Rattle.std.proofs.lemmas.Map.Keys.{IsDistinct-IsPermutation, IsDistinct-from_apart, below_from_sorted, non_decreasing_from_sorted, sorted_from_strictly_increasing}
pub use Rattle.std.proofs.lemmas.Map.Made.{AllPairs-from_IsDistinct, IsDistinct-from_AllPairs}
pub use Rattle.std.proofs.lemmas.Map.Steps.{length-le_from_distinct_below}
pub use Rattle.std.proofs.lemmas.Map.Text.{btree_map_updates_text, is_eq-slice_cmp}
pub use Rattle.std.proofs.lemmas.Map.Views.{Contains-from_any, list_any-from_Contains}
pub use Rattle.std.proofs.lemmas.Nat.{and_block, and_le_r, and_mask, div-add-mod', div-mul-add, div_below, field_of, from_le_bytes-to_le_bytes_2, from_le_bytes-to_le_bytes_4, from_le_bytes-to_le_bytes_8, le-div, le_bytes_2, le_bytes_4}
pub use Rattle.std.proofs.lemmas.Nat.{le_bytes_8, le_or_l, le_or_r, leading_length, mod-mul-add, mod-pow-add, mod_below, mul-add-lt, mul-le, one_shl, ones-le, or_lt, or_shifted, pow-add, pow_below, pow_pos, row_fits, shl_below, shl_whole}
pub use Rattle.std.proofs.lemmas.Nat.{shr-shr, shr_below, shr_split}
pub use Rattle.std.proofs.lemmas.Nat.Bits.{and_pow, bit_at-lt, bit_at-zero, bit_at_above, bit_at_cat_high, bit_at_cat_low, bit_at_lowest, bit_at_or, bit_at_set_other, bit_at_set_same, ones_shr, same_from_bits_below}
pub use Rattle.std.proofs.lemmas.Option.{get_or_from_slice_get, same_Some, slice_get-get_or, slice_get-map, slice_get_cases, slice_get_past, slice_get_read, slice_get_within}
pub use Rattle.std.proofs.lemmas.Result.{on_err_weaker}
pub use Rattle.std.proofs.lemmas.Simd.{adds_fit, bitmask_splat, fold-sum, get_or-chunk, get_or-put_chunk_above, get_or-put_chunk_at, get_or-put_chunk_below, get_or_narrower, length-chunk, length-put_chunk, map-map, none_from_empty_mask}
pub use Rattle.std.proofs.lemmas.Simd.{put_chunk_is, put_chunk_whole, run_in_chunk_fails, run_in_chunk_stops, sum-zip2, sum_fits, take_more_put_chunk, trailing_mask_l}
pub use Rattle.std.proofs.lemmas.Slice.{take-put_mid}
pub use Rattle.std.proofs.lemmas.Slice.Eq.{bytes_eq-Decides, strip_prefix_is}
pub use Rattle.std.proofs.lemmas.Slice.Zip.{AllZip-long}
pub use Rattle.std.proofs.lemmas.Str.{IsCharBoundary-after_ascii, IsUtf8-from_ascii, IsUtf8-from_is_utf8, IsUtf8-nil, IsUtf8-string_bytes, is_utf8-from_IsUtf8}
pub use Rattle.std.proofs.lemmas.Str.Ascii.{IsAscii-from_all}
pub use Rattle.std.proofs.lemmas.Str.Pattern.{IsSplitOnceResult, split_once_first, split_parts}
pub use Rattle.std.specs.BTreeMap.{BTreeMap, IsEmpty, IsUnchanged, UpdatesBy, get_by_text, is_at}
pub use Rattle.std.specs.Char.{digit_value, is_ascii_digit}
pub use Rattle.std.specs.Cmp.{IsStrictWeakOrder, IsTotalOrder, alike_right, nat_cmp_is, tied_back, upto}
pub use Rattle.std.specs.Cmp.Lexicographic.{other_text, pointwise, same_text, slice_cmp}
pub use Rattle.std.specs.FinMap.{IsAntisymmetric, empty, from_entries, get, get-from_entries, get-insert, insert, nat_cmp-IsAntisymmetric, same_map, slice_cmp-IsAntisymmetric}
pub use Rattle.std.specs.Int.{bit_at, div_ceil, from_le_bytes, to_le_bytes, w64}
pub use Rattle.std.specs.Int.Bits.{and_zero_l}
pub use Rattle.std.specs.Io.KnownBytes.{Appends, Consumes, IsAtEnd}
pub use Rattle.std.specs.Iterator.{MakesProgress, Yields, item_count}
pub use Rattle.std.specs.List.{AllByRecursion, AllZip, IsDistinct, after_first, before_first, concat, cons_option, filter_map, find, flat_map, items_where_true, join_with_byte, list_all, list_any, onto_first, position_or_len, prefix_len}
pub use Rattle.std.specs.List.{range_with_len, slice_split, starts_with}
pub use Rattle.std.specs.List.Sorted.{IsSplitAround, IsStable, IsStrictlyIncreasing, ties}
pub use Rattle.std.specs.Map.{lookup}
pub use Rattle.std.specs.Option.{option_and_then, option_copied, option_copied_mut, option_map, option_map_or, option_or, unwrap_or}
pub use Rattle.std.specs.Ordering.{eq_by_cmp, is_eq, is_gt, is_lt, nat_cmp, ordering_reverse, ordering_then}
pub use Rattle.std.specs.Prelude.{⊤}
pub use Rattle.std.specs.Result.{IsErrAnd, result_err}
pub use Rattle.std.specs.Simd.Lanes.{digits_l, number_l}
pub use Rattle.std.specs.Str.{IsUtf8, chars, is_utf8}
pub use Rattle.std.specs.Str.Lines.{strip_carriage_return}
pub use Rattle.std.specs.Str.Parse.{digits_value, digits_value_after}
pub use Rattle.std.specs.String.{string_bytes, string_cmp}
pub use Rattle.std.specs.Vec.Iter.{into_iter_items, into_iter_len, into_iter_steps}
pub use Rattle.std.specs.declared.alloc.Global.{Global}
pub use Rattle.std.specs.declared.cmp.Ordering.{Ordering}
pub use Rattle.std.specs.declared.cmp.Ordering.TheVariants.{Equal, Greater, Less}
pub use Rattle.std.specs.declared.cmp.Reverse.{Reverse}
pub use Rattle.std.specs.declared.vec.IntoIter.{IntoIter}
