-- The three demands and the promise of A.5: one term of each, and the proved contract of each call and of each function of C by its name.
-- Assumes nothing.
use Rattle.begin.proofs.make.Met as make_proof
use Rattle.begin.proofs.open.Met as open_proof
use Rattle.begin.proofs.create.Met as create_proof
use Rattle.begin.proofs.list.Met as list_proof
use Rattle.add.proofs.add.Met as add_proof
use Rattle.add.proofs.add_batch.Met as add_batch_proof
use Rattle.add.proofs.add_ranges.Met as add_ranges_proof
use Rattle.delete.proofs.delete.Met as delete_proof
use Rattle.commit.proofs.commit.Met as commit_proof
use Rattle.advance.proofs.advance.Met as advance_proof
use Rattle.restore.proofs.restore.Met as restore_proof
use Rattle.look.proofs.look.Met as look_proof
use Rattle.look.proofs.look_place.Met as look_place_proof
use Rattle.look.proofs.look_answer.Met as look_answer_proof
use Rattle.domain_store.proofs.ds_make.Met as ds_make_proof
use Rattle.domain_store.proofs.ds_open.Met as ds_open_proof
use Rattle.domain_store.proofs.ds_create.Met as ds_create_proof
use Rattle.domain_store.proofs.ds_add.Met as ds_add_proof
use Rattle.domain_store.proofs.ds_add_ranges.Met as ds_add_ranges_proof
use Rattle.domain_store.proofs.ds_delete.Met as ds_delete_proof
use Rattle.domain_store.proofs.ds_commit.Met as ds_commit_proof
use Rattle.domain_store.proofs.ds_advance.Met as ds_advance_proof
use Rattle.domain_store.proofs.ds_restore.Met as ds_restore_proof
use Rattle.domain_store.proofs.ds_list.Met as ds_list_proof
use Rattle.domain_store.proofs.ds_look.Met as ds_look_proof
use Rattle.demands.specs.Demands.{Proved, Demand1, Demand2, Demand3, Counted, InnerFirst, Demands}
use Rattle.demands.proofs.Refused as refused
use Rattle.demands.proofs.Meant as meant
use Rattle.demands.proofs.Theorem as theorem
use Rattle.demands.proofs.InnerFirst as nested

pub proved : (M : Type 1) → Proved M
proved M = record {
  of_make = make_proof.met;
  of_open = open_proof.met;
  of_create = create_proof.met;
  of_add = add_proof.met;
  of_add_batch = add_batch_proof.met;
  of_add_ranges = add_ranges_proof.met;
  of_delete = delete_proof.met;
  of_commit = commit_proof.met;
  of_advance = advance_proof.met;
  of_restore = restore_proof.met;
  of_list = list_proof.met;
  of_look = look_proof.met;
  of_look_place = look_place_proof.met;
  of_look_answer = look_answer_proof.met;
  of_ds_make = ds_make_proof.met;
  of_ds_open = ds_open_proof.met;
  of_ds_create = ds_create_proof.met;
  of_ds_add = ds_add_proof.met;
  of_ds_add_ranges = ds_add_ranges_proof.met;
  of_ds_delete = ds_delete_proof.met;
  of_ds_commit = ds_commit_proof.met;
  of_ds_advance = ds_advance_proof.met;
  of_ds_restore = ds_restore_proof.met;
  of_ds_list = ds_list_proof.met;
  of_ds_look = ds_look_proof.met;
}

pub demand_1 : Demand1
demand_1 = refused.demand_1

pub demand_2 : Demand2
demand_2 = meant.demand_2

pub demand_3 : Demand3
demand_3 = theorem.demand_3

-- and what keeps demand 3 from holding of nothing
pub counted : Counted
counted = theorem.counted

-- document 02's A.5
pub inner_first : InnerFirst
inner_first = nested.inner_first

pub demands : (M : Type 1) → Demands M
demands M = record {
  proved = proved M;
  demand_1 = demand_1;
  demand_2 = demand_2;
  demand_3 = demand_3;
  counted = counted;
}
