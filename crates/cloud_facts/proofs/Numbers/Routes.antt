-- The queues of records stand where no leaf's link goes.
use Rattle.std.proofs.Common.{ℕ, List, inl, inr}
use Rattle.cloud_facts.specs.Words.{AtomicRec, Book, Link, IsIn}
use Rattle.cloud_facts.specs.Book.Premises.{IsLeafAtMost, IsRouted}
use Rattle.cloud_facts.specs.Book.Records.{key_in}

-- every link of the leaf chains stays
abbrev pub LeavesStay : Book → Book → Type 0
LeavesStay book su = (tree : ℕ) (link : Link) → IsIn (book.chain tree 0) link → IsIn (su.chain tree 0) link

leaf_on : (book su : Book) (tree page : ℕ) (key : List ℕ) → LeavesStay book su → IsLeafAtMost book tree page key → IsLeafAtMost su tree page key
leaf_on book su tree page key stay is = record { link = is.link; linked = stay tree is.link is.linked; page_is = is.page_is; low = is.low }

pub routed_on : (book su : Book) (r : AtomicRec) → LeavesStay book su → IsRouted book r → IsRouted su r
routed_on book su r stay (inl none) = inl none
routed_on book su r stay (inr leaf) = inr (leaf_on book su r.tree r.page (key_in r) stay leaf)
