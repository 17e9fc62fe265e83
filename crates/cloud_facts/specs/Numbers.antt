-- The numbers of the committed records: in each queue they count a client's records in the order of commit.
pub mod Numbers
