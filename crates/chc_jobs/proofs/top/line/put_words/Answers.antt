use Rattle.chc_jobs.proofs.top.line.put_words.Goals as goal

pub returns-in-Usage : goal.returns-in-Usage
returns-in-Usage g c = rw c.in-Usage.is c.put_all.ensures

pub returns-in-ScriptRefused : goal.returns-in-ScriptRefused
returns-in-ScriptRefused g c = rw c.in-ScriptRefused.is c.put_fault.ensures

pub returns-in-TraceRefused : goal.returns-in-TraceRefused
returns-in-TraceRefused g c = rw c.in-TraceRefused.is c.put_fault-in-TraceRefused.ensures

pub returns-in-AnswerRefused : goal.returns-in-AnswerRefused
returns-in-AnswerRefused g c = rw c.in-AnswerRefused.is c.put_fault-in-AnswerRefused.ensures

pub returns-in-ReadFault : goal.returns-in-ReadFault
returns-in-ReadFault g c = rw c.in-ReadFault.is c.put_counted.ensures

pub returns-in-TooLong : goal.returns-in-TooLong
returns-in-TooLong g c = rw c.in-TooLong.is c.put_counted-in-TooLong.ensures
