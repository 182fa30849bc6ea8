use Rattle.wasi_calls.proofs.CallLaws.{read_answers, write_answers}
use Rattle.wasi_calls.proofs.calls.host.Goals as goal

pub returns-in-Some : goal.returns-in-Some
returns-in-Some c = record {
  answers = read_answers c.args.call c.args.left c.with_arguments.result c.args.vessel.now c.read_body.new.vessel c.come_back.new.vessel c.args.streams.now c.read_body.new.streams c.in-Some.done c.come_back.result c.in-FdRead.is c.with_arguments.ensures c.in-Some.ensures c.come_back.ensures.vessel c.come_back.ensures.result;
}

pub returns-in-Some-write_reply : goal.returns-in-Some-write_reply
returns-in-Some-write_reply c = record {
  answers = write_answers c.args.call c.args.left c.with_arguments-in-FdWrite.result c.args.vessel.now c.write_reply.new.vessel c.come_back-in-Some-write_reply.new.vessel c.args.streams.now c.write_reply.new.streams c.in-Some-write_reply.done c.come_back-in-Some-write_reply.result c.in-FdWrite.is c.with_arguments-in-FdWrite.ensures c.in-Some-write_reply.ensures c.come_back-in-Some-write_reply.ensures.vessel c.come_back-in-Some-write_reply.ensures.result;
}
