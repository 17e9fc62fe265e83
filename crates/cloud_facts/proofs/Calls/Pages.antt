-- The newest versions of pages and roots, by their newest bytes.
use Rattle.std.proofs.Common.{◌≡◌, ℕ, false, List, [], map, Option, Some, None, refl, ap}
use Rattle.cloud_facts.specs.Chains.Links.{top_of}
use Rattle.cloud_facts.specs.Words.{Version, CloudState, newest, nodes_of, roots_of}
use Rattle.db_base.specs.declared.names.ObjName.TheVariants as object
use Rattle.cloud_facts.specs.Decoding.Decodes.{Decodes}
use Rattle.cloud_facts.proofs.Book.Places.{get_map, in_none}
use Rattle.cloud_facts.proofs.Decoding.Newest.{newest_last, never_gone, no_version}
use Rattle.cloud_facts.proofs.Decoding.Versions.{among_those}
use Rattle.node_codec.specs.Tree.{empty_tree}
use Rattle.cloud_facts.specs.Book.Telling.{last_or, node_in, with_bytes, root_in, gone_of}

-- an object without newest bytes that was not removed has no version
pub none_landed : (s : CloudState) (tree page : ℕ) → Decodes s → gone_of s tree page ≡ false → newest s (object.Page tree page) ≡ None → nodes_of s tree page ≡ []
none_landed s tree page d there none =
    ap (λ (vs : List Version). map node_in (with_bytes vs))
    (no_version (object.Page tree page) (s.versions (object.Page tree page)) (d.versions (object.Page tree page)) there none)

pub no_root : (s : CloudState) (tree : ℕ) → Decodes s → newest s (object.Tree tree) ≡ None → top_of (roots_of s tree) ≡ empty_tree
no_root s tree d none =
    let there = never_gone (object.Tree tree) (s.versions (object.Tree tree)) (λ no. no) (d.versions (object.Tree tree)) in
    ap (λ (vs : List Version). last_or empty_tree (map root_in vs))
    (no_version (object.Tree tree) (s.versions (object.Tree tree)) (d.versions (object.Tree tree)) there none)

-- and one with them has one
pub some_landed : (s : CloudState) (tree page : ℕ) → nodes_of s tree page ≡ [] → newest s (object.Page tree page) ≡ None
some_landed s tree page none = on (newest s (object.Page tree page)) refl
  where
    on : (o : Option (List ℕ)) → newest s (object.Page tree page) ≡ o → newest s (object.Page tree page) ≡ None
    on None e = e
    on (Some bytes) e =
        let last = newest_last (s.versions (object.Page tree page)) bytes e in
        let is = among_those (s.versions (object.Page tree page)) _ last.0 bytes last.1 last.2 in
        absurd (in_none (nodes_of s tree page) (node_in last.0) none (is.0, get_map node_in (with_bytes (s.versions (object.Page tree page))) is.0 last.0 is.1))
