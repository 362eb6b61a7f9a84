-- `same_sort` tells whether two sorts are equal: the laws of the crate that has it.
pub use Rattle.chc_sorts.proofs.SameSort.{SortCases, sort_ind, same_sort-Bool, same_sort-Int, same_sort-Data, same_sort-Array, same_from_test, same_itself, test_from_same, both_true, same_sorts_from_test, same_sorts_itself}
