mod Sorting
