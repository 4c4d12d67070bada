mod Pairwise
