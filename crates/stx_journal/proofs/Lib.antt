pub mod RowChanges
