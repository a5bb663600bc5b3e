use Rattle.std.proofs.Common.{◌≡◌, ◌∙◌, ◌+◌, ◌-◌, ◌≤◌, ℕ, List, Some, Result, Ok, Err, length, map, min, refl, sym, ap, subst, rules, arith}
use Rattle.std.specs.List.{range_with_len}
use Rattle.store_api.specs.Limits.{IsPart}
use Rattle.store_api.specs.Stores.{read_at}
use Rattle.store_api.specs.declared.answer.StoreAnswer.{StoreAnswer}
use Rattle.store_api.specs.declared.answer.StoreAnswer.TheVariants.{NoMemory}
use Rattle.region_plan.specs.Directories.{IsDirectoryOf, ReadsFrom}
use Rattle.region_plan.specs.Inodes.{length_in}
use Rattle.region_plan.specs.Layout.{layout}
use Rattle.region_plan.specs.Reading.{IsReadData, IsReadPart, leaves_of}
use Rattle.region_plan.specs.Regions.{byte_at, inodes_of}
use Rattle.region_plan.specs.Tables.{IsInode, inode_with}
use Rattle.region_plan.proofs.ContentLemmas.{content_answer, if_ok, part_inside}
use Rattle.region_plan.proofs.DirectoryLemmas.{answers_read}
use Rattle.region_plan.proofs.FirstLemmas.{linked, linked_below, reach}
use Rattle.region_plan.proofs.FormLemmas.{laid_by}
use Rattle.region_plan.proofs.ReadLemmas.{reads_no_memory, reads_not_found, reads_started}
use Rattle.region_plan.proofs.RegionLemmas.{less_read}
use Rattle.region_plan.proofs.StoreLemmas.{located, looked_none, looked_up, absent_is, content_told, length_told, found_is_inode}
use Rattle.region_plan.proofs.directory.Directory.content.Goals as goal

pub returns-in_default-clause-reads : goal.returns-in_default-clause-reads
returns-in_default-clause-reads g c = record {
  answer = λ h is. absent_is (layout c.args.self.now.form) (leaves_of g.L.LeafSource.keeper g.L.LeafSource.region c.args.from.now) _ c.args.id.now
      (looked_none (layout c.args.self.now.form) (leaves_of g.L.LeafSource.keeper g.L.LeafSource.region c.args.from.now) c.args.id.now c.find.result c.args.self.now.inodes
      c.args.self.now.inodes c.find.ensures.inode refl is.inodes c.in_default.is);
  bounds = tt;
  few = tt;
  garbled = λ h is. tt;
  reads = reads_not_found g.L.LeafSource.keeper g.L.LeafSource.region c.args.from.now c.args.from.now
      (reads_started g.L.LeafSource.keeper g.L.LeafSource.region c.args.from.now c.requires.works (g.met.L.LeafSource.rests c.args.from.now));
}

pub returns-clause-reads : goal.returns-clause-reads
returns-clause-reads g c =
    let K = g.L.LeafSource.keeper in
    let R = g.L.LeafSource.region in
    let leaves = leaves_of K R c.args.from.now in
    let d = c.args.self.now in
    let L = layout d.form in
    let inode = c.in-Some.inode.now in
    let here : IsDirectoryOf leaves d → inode_with c.args.id.now (inodes_of L leaves) ≡ Some inode
    = λ is. looked_up L leaves c.args.id.now c.find.result d.inodes d.inodes c.in-Some.inode c.find.ensures.inode refl is.inodes c.in-Some.is in
    let known : IsDirectoryOf leaves d → IsInode L leaves c.as_slice.result.now inode.number inode.length
    = λ is. record {
      first = linked L leaves c.args.self.now.map inode.number c.blocks-count.result c.in_ok-links.links.items c.as_slice.result.now is.map c.in_ok-links.ensures.first
          c.in_ok-links.ensures.long c.as_slice.ensures.value;
      inode = found_is_inode L leaves c.args.id.now inode (here is);
      long = length_told L leaves c.args.id.now inode (here is);
    } in
    record {
      answer = λ h is. answers_read c.read_between.result _
          (if_ok c.read_between.result (λ a. a ≡ map (λ n. byte_at L leaves inode.number n) (range_with_len c.min-start.result ((c.min-start.result + c.min.result) - c.min-start.result))) _
          (λ a bytes.
          content_told L leaves c.args.id.now inode c.args.start c.args.count (here is)
          ∙ ap (λ (b : List ℕ). Ok b) (content_answer L (laid_by d.form) leaves leaves inode.number c.args.start c.args.count inode.length c.min-start.result c.min.result a refl (known is).long
          c.min-start.ensures c.min.ensures bytes))
          (c.read_between.ensures.bytes h (known is)))
          c.read_between.ensures.unread;
      bounds = if_ok c.read_between.result (λ a. length a ≡ (c.min-start.result + c.min.result) - c.min-start.result) (λ a. length a ≤ c.args.count)
          (λ a is. omega (arith, is, c.min.ensures)) c.read_between.ensures.count;
      few = c.read_between.ensures.few;
      garbled = λ h is. c.read_between.ensures.garbled h (known is);
      reads = c.read_between.ensures.reads;
    }

pub returns-clause-found : goal.returns-clause-found
returns-clause-found g c h is =
    let K = g.L.LeafSource.keeper in
    let R = g.L.LeafSource.region in
    let leaves = leaves_of K R c.args.from.now in
    let d = c.args.self.now in
    let L = layout d.form in
    let inode = c.in-Some.inode.now in
    let here : inode_with c.args.id.now (inodes_of L leaves) ≡ Some inode
    = looked_up L leaves c.args.id.now c.find.result d.inodes d.inodes c.in-Some.inode c.find.ensures.inode refl is.inodes c.in-Some.is in
    let place = located L leaves c.args.id.now inode c.in-Some.ensures.within.2 here in
    let long = length_told L leaves c.args.id.now inode here in
    let known : IsInode L leaves c.as_slice.result.now inode.number inode.length
    = record {
      first = linked L leaves c.args.self.now.map inode.number c.blocks-count.result c.in_ok-links.links.items c.as_slice.result.now is.map c.in_ok-links.ensures.first
          c.in_ok-links.ensures.long c.as_slice.ensures.value;
      inode = place.1;
      long = long;
    } in
    if_ok c.read_between.result
    (λ (bytes : List ℕ). IsReadData K R L inode.number c.min-start.result (c.min-start.result + c.min.result) c.args.from.now)
    (λ (bytes : List ℕ). IsReadPart K R L c.args.id.now c.args.start c.args.count c.args.from.now)
    (λ bytes read. record {
      inode = inode.number;
      is = place.1;
      named = place.2;
      found = less_read K R L c.args.from.now inode.number c.min-start.result (c.min-start.result + c.min.result) c.args.start
          (min (c.args.start + c.args.count) (length_in (leaves inode.number)))
          (λ place low high. part_inside c.args.start c.args.count inode.length (length_in (leaves inode.number)) c.min-start.result c.min.result place c.min-start.ensures c.min.ensures
          long low high)
          read;
    })
    (c.read_between.ensures.found h known)

pub read_between-requires-clause-links : goal.read_between-requires-clause-links
read_between-requires-clause-links g c =
    linked_below (layout c.args.self.now.form) c.args.self.now.map c.in-Some.inode.now.number c.blocks-count.result c.in_ok-links.links.items c.as_slice.result.now c.in_ok-links.ensures.first
    c.in_ok-links.ensures.long c.as_slice.ensures.value

pub read_between-requires-clause-reach : goal.read_between-requires-clause-reach
read_between-requires-clause-reach g c =
    reach (c.min-start.result + c.min.result) c.blocks-count.result (length c.as_slice.result.now) c.blocks-count.ensures (ap length c.as_slice.ensures.value ∙ c.in_ok-links.ensures.long)

pub returns-in_err-links-clause-reads : goal.returns-in_err-links-clause-reads
returns-in_err-links-clause-reads g c =
    let K = g.L.LeafSource.keeper in
    let R = g.L.LeafSource.region in
    let is : c.from_residual.result ≡ Err NoMemory = search rules in
    subst (λ (r : Result (List ℕ) StoreAnswer). ReadsFrom K R c.args.self.now (λ store. read_at store c.args.id.now c.args.start c.args.count) (IsPart c.args.count) r c.args.from.now
    c.args.from.now) (sym is)
    (record {
      answer = λ h d. tt;
      bounds = tt;
      few = tt;
      garbled = λ h d. tt;
      reads = reads_no_memory K R c.args.from.now c.args.from.now (reads_started K R c.args.from.now c.requires.works (g.met.L.LeafSource.rests c.args.from.now));
    })
